-- Children of a node that count for a match: no trivia, and no comma directly, trivia aside, before a closing bracket.
use Rattle.std.specs.Prelude.{◌&&◌, ◌||◌, Bool, false, if◌then◌else◌, List, [], ◌∷◌}
use Rattle.ssr_syntax_kinds.specs.declared.kinds.SyntaxKind.{SyntaxKind}
use Rattle.ssr_syntax_kinds.specs.declared.kinds.SyntaxKind.TheVariants as k
use Rattle.ssr_syntax_kinds.specs.Kinds.{same_kind, is_trivia}
use Rattle.ssr_syntax_tree.specs.Places.{Part, token_part, node_part}
use Rattle.ide_ssr_token_trees.specs.Elements.{closes}

-- whether a token of this kind, with these siblings behind it, is left out
abbrev pub is_left_out : SyntaxKind → List Part → Bool
is_left_out kind rest = is_trivia kind || (same_kind kind k.COMMA && closes rest)

abbrev pub leaves_out : Part → List Part → Bool
leaves_out (token_part t token) rest = is_left_out token.kind rest
leaves_out (node_part node) rest = false

-- a node's children without what is left out
abbrev pub bare : List Part → List Part
bare [] = []
bare (part ∷ rest) = if leaves_out part rest then bare rest else part ∷ bare rest
