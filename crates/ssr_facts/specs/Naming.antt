-- Whether each number of a facts file names something, and each row of a path or of a method call such a node.
use Rattle.std.specs.Prelude.{ℕ, ◌&&◌, nat_lt, Bool, true, length, is_some}
use Rattle.std.specs.List.{list_all}
use Rattle.ssr_syntax_kinds.specs.declared.kinds.SyntaxKind.TheVariants as k
use Rattle.ssr_base_trees.specs.Workspace.{Workspace, tree_of}
use Rattle.ssr_base_trees.specs.declared.ids.ScopeId.{ScopeId}
use Rattle.ssr_base_trees.specs.declared.ids.DefId.{DefId}
use Rattle.ssr_base_trees.specs.declared.semantics.Res.{Res}
use Rattle.ssr_base_trees.specs.declared.semantics.Res.TheVariants as res
use Rattle.ssr_facts_rows.specs.Facts.{PlainFacts}
use Rattle.ssr_facts.specs.Nodes.{node_at}

abbrev pub is_tree : Workspace → ℕ → Bool
is_tree w tree = is_some (tree_of w tree)

abbrev pub is_scope : PlainFacts → ScopeId → Bool
is_scope facts scope = nat_lt scope.0 (length facts.scopes)

abbrev pub is_definition : PlainFacts → DefId → Bool
is_definition facts def = nat_lt def.0 (length facts.definitions)

-- what is no definition has a number of its own
abbrev pub is_resolution : PlainFacts → Res → Bool
is_resolution facts (res.Def def) = is_definition facts def
is_resolution facts _ = true

-- ** Row by row.

abbrev pub scopes_named : Workspace → PlainFacts → Bool
scopes_named w facts = list_all (λ row. is_tree w row.tree) facts.scopes

abbrev pub names_named : PlainFacts → Bool
names_named facts = list_all (λ row. is_scope facts row.0.scope && is_resolution facts row.1) facts.names

abbrev pub members_named : PlainFacts → Bool
members_named facts =
    list_all (λ row. is_scope facts row.0.scope && (is_definition facts row.0.adt && is_definition facts row.1)) facts.members

abbrev pub paths_named : Workspace → PlainFacts → Bool
paths_named w facts = list_all (λ row. is_some (node_at w k.PATH row.0) && is_resolution facts row.1) facts.paths

abbrev pub methods_named : Workspace → PlainFacts → Bool
methods_named w facts =
    list_all (λ row. is_some (node_at w k.METHOD_CALL_EXPR row.0) && is_definition facts row.1.def) facts.methods

abbrev pub types_named : Workspace → PlainFacts → Bool
types_named w facts = list_all (λ row. is_tree w row.0.tree) facts.types

abbrev pub printed_named : PlainFacts → Bool
printed_named facts = list_all (λ row. is_scope facts row.0.scope && is_definition facts row.0.def) facts.printed

abbrev pub all_named : Workspace → PlainFacts → Bool
all_named w facts =
    scopes_named w facts && (names_named facts && (members_named facts && (paths_named w facts
    && (methods_named w facts && (types_named w facts && printed_named facts)))))
