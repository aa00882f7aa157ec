-- What a tree's text is asked for. Forms see the kinds of tokens alone, and take any identifier where a word stands that is
-- an identifier elsewhere.
use Rattle.std.specs.Prelude.{ℕ, Bool, false, not, ◌&&◌, ◌||◌, List, bytes_eq, codes}
use Rattle.std.specs.List.{list_any}
use Rattle.ssr_syntax_kinds.specs.Kinds.{same_kind}
use Rattle.ssr_syntax_kinds.specs.declared.kinds.SyntaxKind.{SyntaxKind}
use Rattle.ssr_syntax_kinds.specs.declared.kinds.SyntaxKind.TheVariants.{IDENT, MACRO_RULES, RAW_KW, SAFE_KW, UNION_KW}
use Rattle.ssr_syntax_tree.specs.Places.{Part, token_part, node_part, Node, nodes_of, parts_of}
use Rattle.ssr_syntax_tree.specs.Syntax.{Syntax}

-- an identifier other than the word
abbrev pub is_other_word : List ℕ → Part → Bool
is_other_word word (token_part t token) = same_kind token.kind IDENT && not (bytes_eq token.text word)
is_other_word word (node_part node) = false

-- the node is of the kind, and an identifier other than the word is its child
abbrev pub is_misnamed : SyntaxKind → List ℕ → Node → Bool
is_misnamed kind word node = same_kind node.kind kind && list_any (is_other_word word) (parts_of node)

unfoldable pub misnames : SyntaxKind → List ℕ → Syntax → Bool
misnames kind word tree = list_any (is_misnamed kind word) (nodes_of tree)

-- MACRO_RULES begins with its word; the other ones, which the stated language hasn't, stand in nodes of their own
unfoldable pub misnames_macros : Syntax → Bool
misnames_macros tree =
    misnames MACRO_RULES (codes "macro_rules") tree
    || (misnames UNION_KW (codes "union") tree || (misnames RAW_KW (codes "raw") tree || misnames SAFE_KW (codes "safe") tree))
