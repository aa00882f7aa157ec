-- Nodes of a workspace, and their places: by these a facts file names them.
use Rattle.std.specs.Prelude.{ℕ, ◌==◌, ◌&&◌, Bool, Option, Some}
use Rattle.std.specs.List.{find}
use Rattle.std.specs.Option.{option_map, option_and_then}
use Rattle.ssr_syntax_kinds.specs.Kinds.{same_kind}
use Rattle.ssr_syntax_kinds.specs.declared.kinds.SyntaxKind.{SyntaxKind}
use Rattle.ssr_syntax_tree.specs.Syntax.{Syntax}
use Rattle.ssr_syntax_tree.specs.Places.{Node, node_of, nodes_of, start_of, end_of}
use Rattle.ssr_base_trees.specs.declared.ids.NodeId.{NodeId}
use Rattle.ssr_base_trees.specs.Workspace.{Workspace, trees, tree_of, told_of, node_id}
use Rattle.ssr_facts_rows.specs.declared.places.PlaceRow.{PlaceRow}

abbrev pub same_place : PlaceRow → PlaceRow → Bool
same_place a b = (a.tree == b.tree) && ((a.start == b.start) && (a.end == b.end))

-- the place of a node of the tree with the number t
abbrev pub place_in : ℕ → Syntax → Node → PlaceRow
place_in t tree node = record { tree = t; start = start_of tree node; end = end_of tree node }

-- the place of a node, if there is such a node
abbrev pub place_of : Workspace → NodeId → Option PlaceRow
place_of w x = told_of (λ p. Some (place_in x.tree p.syntax (node_of p.syntax x.node.0))) (trees w) x

-- whether a node is of a kind and has exactly this place
abbrev pub stands_at : SyntaxKind → PlaceRow → Syntax → Node → Bool
stands_at kind place tree node = same_kind node.kind kind && same_place place (place_in place.tree tree node)

-- the first node in preorder that is of a kind and has exactly this place
abbrev pub node_at : Workspace → SyntaxKind → PlaceRow → Option NodeId
node_at w kind place =
    option_and_then
    (λ tree. option_map (λ node. node_id place.tree node.number) (find (stands_at kind place tree) (nodes_of tree)))
    (tree_of w place.tree)
