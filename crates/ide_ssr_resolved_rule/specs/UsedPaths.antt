-- The used paths of a tree: its nodes, and what these stand for by them.
use Rattle.std.specs.Prelude.{◌==◌, All, Bool, List, Option}
use Rattle.std.specs.List.{find}
use Rattle.std.specs.Option.{option_map}
use Rattle.ssr_syntax_tree.specs.declared.number.NodeNo.{NodeNo}
use Rattle.ssr_syntax_tree.specs.Places.{HasNode}
use Rattle.ssr_syntax_tree.specs.Syntax.{Syntax}
use Rattle.ssr_base_trees.specs.declared.semantics.Res.{Res}
use Rattle.ide_ssr_resolved_rule.specs.declared.used_paths.UsedPath.{UsedPath}

-- used paths are nodes of their tree
abbrev pub HasPaths : Syntax → List UsedPath → Type 0
HasPaths tree paths = All (λ path. HasNode tree path.node.0) paths

abbrev pub is_at : NodeNo → UsedPath → Bool
is_at node path = path.node.0 == node.0

-- what a node stands for, if it is one of the used paths
abbrev pub res_at : List UsedPath → NodeNo → Option Res
res_at paths node = option_map (λ path. path.res) (find (is_at node) paths)
