-- Which texts are paths that lead from a scope to a definition.
use Rattle.std.specs.Prelude.{ℕ, ◌≡◌, ◌||◌, Bool, false, List, [], ◌∷◌, ◌++◌, Option, Some, None, bytes_eq, codes, slice_get}
use Rattle.ssr_base_trees.specs.declared.ids.ScopeId.{ScopeId}
use Rattle.ssr_base_trees.specs.declared.ids.DefId.{DefId}
use Rattle.ssr_base_trees.specs.Meanings.{Meanings}
use Rattle.ssr_names_items.specs.declared.names.Names.{Names as Numbers}
use Rattle.ssr_names_items.specs.declared.table.Name.{Name}
use Rattle.ssr_names_items.specs.declared.table.ModuleNo.{ModuleNo}
use Rattle.ssr_names_items.specs.declared.table.Namespace.{Namespace}
use Rattle.ssr_names_items.specs.declared.table.Start.{Start}
use Rattle.ssr_names_items.specs.declared.table.Start.TheVariants as starts
use Rattle.ssr_names_items.specs.Names.{bare, number_of}
use Rattle.ssr_names.specs.declared.definitions.Definition.{Definition}
use Rattle.ssr_names.specs.declared.space.Space.{Space}
use Rattle.ssr_names.specs.WholePaths.{WholeStandsFor}

-- what a path begins with in front of its names; none for `self` and `super`, which are never printed
abbrev pub front_text : Start → Option (List ℕ)
front_text starts.Plain = Some []
front_text starts.Global = Some (codes "::")
front_text starts.Crate = Some (codes "crate::")
front_text start = None

-- a word that a path begins with, or no text: no name of a path is spelled so
abbrev pub is_path_word : List ℕ → Bool
is_path_word text = bytes_eq text [] || (bytes_eq text (codes "crate") || (bytes_eq text (codes "self") || bytes_eq text (codes "super")))

-- a text is read as a name, with `r#` in front or without
pub record IsSpelled (numbers : Numbers) (name : Name) (text : List ℕ) : Type 0 where
  pub read : number_of numbers text ≡ Some name
  pub plain : is_path_word (bare text) ≡ false

-- a name stands behind a text
abbrev pub EndsWithName : Numbers → Name → List ℕ → List ℕ → Type 0
EndsWithName numbers name before text = (spelled : List ℕ) × IsSpelled numbers name spelled × (text ≡ before ++ spelled)

-- names stand behind a text, with `::` between
pub data EndsWithNames (numbers : Numbers) (front : List ℕ) : List Name → List ℕ → Type 0 where
  ends_with_one : (name : Name) (text : List ℕ) → EndsWithName numbers name front text → EndsWithNames numbers front (name ∷ []) text
  ends_with_more : (names : List Name) (name : Name) (before text : List ℕ) → EndsWithNames numbers front names before
      → EndsWithName numbers name (before ++ codes "::") text → EndsWithNames numbers front (names ++ name ∷ []) text

-- a text is a path that begins so and has these names
pub record Spells (numbers : Numbers) (start : Start) (names : List Name) (text : List ℕ) : Type 0 where
  pub front : List ℕ
  pub begins : front_text start ≡ Some front
  pub ends : EndsWithNames numbers front names text

-- A text is a path that stands for a definition in a module, in some namespace.
pub record LeadsTo (space : Space) (m : ModuleNo) (text : List ℕ) (d : Definition) : Type 0 where
  pub start : Start
  pub names : List Name
  pub spelled : Spells space.table.now.names start names text
  pub namespace : Namespace
  pub stands : WholeStandsFor space (record { start = start; within = m; import = None }) namespace names d

-- a text leads from a scope to the definition of a number
pub record LeadsFrom (space : Space) (definitions : List Definition) (scope : ScopeId) (number : DefId) (text : List ℕ) : Type 0 where
  pub definition : Definition
  pub numbered : slice_get definitions number.0 ≡ Some definition
  pub leads : LeadsTo space (record { 0 = scope.0 }) text definition

-- each text that is told as the path by which a scope reaches a definition leads there
abbrev pub PathsLead : Space → List Definition → Meanings → Type 0
PathsLead space definitions meanings = (scope : ScopeId) (number : DefId) (text : List ℕ) → meanings.path_from scope number ≡ Some text
    → LeadsFrom space definitions scope number text
