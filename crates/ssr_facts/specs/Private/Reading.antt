-- Private: steps of reading a facts file.
use Rattle.std.specs.Prelude.{◌≡◌, ◌&&◌, Bool, true, false, List, Option, Some, None, is_some, Result, Ok, Err, String}
use Rattle.std.specs.Global.{Global}
use Rattle.std.specs.List.{list_all}
use Rattle.ssr_base.specs.declared.building.Expansion.{Expansion}
use Rattle.ssr_base.specs.Building.{built}
use Rattle.ssr_base_trees.specs.Meanings.{Meanings}
use Rattle.ssr_base_trees.specs.Workspace.{Workspace}
use Rattle.ssr_facts_rows.specs.Facts.{PlainFacts, plain_facts}
use Rattle.ssr_base_trees.specs.declared.ids.NodeId.{NodeId}
use Rattle.ssr_facts_rows.specs.declared.facts.FactRows.{FactRows}
use Rattle.ssr_facts_rows.specs.declared.places.PlaceRow.{PlaceRow}
use Rattle.ssr_facts.specs.declared.facts_error.FactsError.{FactsError}
use Rattle.ssr_facts.specs.declared.facts_error.FactsError.TheVariants as errors
use Rattle.ssr_facts.specs.Naming.{is_tree, is_scope, is_definition, is_resolution, all_named}
use Rattle.ssr_facts.specs.Told.{meanings_told}

-- an answer is what is built; want of memory says nothing
abbrev pub Builds : List (String Global) → List Expansion → Result Workspace FactsError → Type 0
Builds files expansions (Ok w) = built files expansions ≡ Ok w
Builds files expansions (Err (errors.Workspace refusal)) = built files expansions ≡ Err refusal
Builds files expansions (Err errors.Memory) = Unit {0}
Builds files expansions (Err e) = ⊥

-- there are meanings exactly where all is named, and then those that are told
abbrev pub IsToldIfNamed : Workspace → PlainFacts → Option Meanings → Type 0
IsToldIfNamed w facts None = all_named w facts ≡ false
IsToldIfNamed w facts (Some meanings) = (all_named w facts ≡ true) × (meanings ≡ meanings_told w facts)

-- whether all is named, by the rows as they are stored, and by the paths and the calls at places
abbrev pub rows_named : Workspace → FactRows → (PlaceRow → Option NodeId) → (PlaceRow → Option NodeId) → Bool
rows_named w rows path call =
    let facts = plain_facts rows in
    list_all (λ row. is_tree w row.tree) rows.scopes.items
    && (list_all (λ row. is_scope facts row.0.scope && is_resolution facts row.1) rows.names.items
    && (list_all (λ row. is_scope facts row.0.scope && (is_definition facts row.0.adt && is_definition facts row.1)) rows.members.items
    && (list_all (λ row. is_some (path row.0) && is_resolution facts row.1) rows.paths.items
    && (list_all (λ row. is_some (call row.0) && is_definition facts row.1.def) rows.methods.items
    && (list_all (λ row. is_tree w row.0.tree) rows.types.items
    && list_all (λ row. is_scope facts row.0.scope && is_definition facts row.0.def) rows.printed.items)))))
