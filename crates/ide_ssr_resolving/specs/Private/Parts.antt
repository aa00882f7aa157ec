-- Private: words on paths over the children of a node as a tree lends them.
use Rattle.std.specs.Prelude.{ℕ, List, [], ◌∷◌, Option, Some, None, if◌then◌else◌}
use Rattle.ssr_syntax_kinds.specs.declared.kinds.SyntaxKind.TheVariants as k
use Rattle.ssr_syntax_kinds.specs.Kinds.{same_kind}
use Rattle.ssr_syntax_tree.specs.declared.number.NodeNo.{NodeNo}
use Rattle.ssr_syntax_tree.specs.Places.{Part, token_part, node_part, node_of}
use Rattle.ssr_syntax_tree.specs.Syntax.{Forest, Syntax}
use Rattle.ide_ssr_resolved_rule.specs.Paths.{segments, is_arguments}

-- what stands below the node of a number
abbrev pub below : Syntax → NodeNo → Forest
below tree node = (node_of tree node.0).children

-- the segments at a child of a path
abbrev pub segments_at : Part → List Forest
segments_at (token_part t token) = []
segments_at (node_part node) =
    if same_kind node.kind k.PATH then segments node.children else if same_kind node.kind k.PATH_SEGMENT then node.children ∷ [] else []

-- where the arguments begin that a child of a segment is
abbrev pub start_at : Part → Option ℕ
start_at (token_part t token) = None
start_at (node_part node) = if is_arguments node.kind then Some node.first else None
