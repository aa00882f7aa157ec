-- How a workspace grows: from none, by the tree of a macro call that may be expanded.
use Rattle.std.specs.Prelude.{◌+◌, ◌≡◌, ◌<◌, ◌≤◌, List, [], ◌∷◌, ◌++◌, length, Option, None}
use Rattle.ssr_syntax_kinds.specs.declared.reach.Reach.{Reach}
use Rattle.ssr_syntax_kinds.specs.declared.reach.Reach.TheVariants.{Stated}
use Rattle.ssr_syntax_tree.specs.Syntax.{Syntax, depth_of, most_deep}
use Rattle.ssr_base_trees.specs.declared.ids.NodeId.{NodeId}
use Rattle.ssr_base_trees.specs.Origins.{Span}
use Rattle.ssr_base_trees.specs.Workspace.{Expanded, Workspace, trees, nesting, expansion_of}
use Rattle.ssr_base_trees.specs.Built.{most_nested, IsNodeOf, IsMacroCall, HasOrigins}

-- files that are read in a reach
abbrev pub only_files_of : Reach → List Syntax → Workspace
only_files_of reach files = record { reach = reach; files = files; expansions = [] }

abbrev pub only_files : List Syntax → Workspace
only_files files = only_files_of Stated files

abbrev pub no_tree : Workspace
no_tree = only_files []

abbrev pub with_tree : Workspace → NodeId → Syntax → List (Option Span) → Workspace
with_tree w call tree origins =
    record { reach = w.reach; files = w.files; expansions = w.expansions ++ record { call = call; syntax = tree; origins = origins } ∷ [] }

-- a call of an earlier tree that may be expanded
pub record IsFree (w : Workspace) (call : NodeId) : Type 0 where
  pub earlier : call.tree < length w.files + length w.expansions
  pub nested : nesting (trees w) call.tree < most_nested
  pub free : expansion_of w call ≡ None

-- an expansion of a macro call, with its origins
pub record IsOfCall (w : Workspace) (e : Expanded) : Type 0 where
  pub node : IsNodeOf (trees w) e.call
  pub macro_call : IsMacroCall (trees w) e.call
  pub origins : HasOrigins (trees w) e
  pub shallow : depth_of e.syntax ≤ most_deep
