-- Tokens that stand for themselves.
use Rattle.std.specs.Prelude.{◌≡◌, ℕ, true, List}
use Rattle.ssr_syntax_kinds.specs.declared.kinds.SyntaxKind.{SyntaxKind}
use Rattle.ssr_syntax_tree.specs.Syntax.{Syntax}
use Rattle.ssr_syntax_tree.specs.Places.{token_of, node_of}
use Rattle.ssr_syntax_tree.specs.declared.number.TokenNo.{TokenNo}
use Rattle.ssr_syntax_places.specs.Core.{Holes, are_spelled, is_held, is_leaf, is_name_ref, is_path, is_segment}
use Rattle.ssr_syntax_places.specs.PlainCore.{forest_in, tokens_like}
use Rattle.ssr_syntax_shorts.specs.Names.{place_of, AreNames}

-- a token of a tree, with all that it is joined from, stands for itself
abbrev pub IsOwn : Syntax → List TokenNo → ℕ → Type 0
IsOwn tree names t =
    (holes : Holes) → AreNames tree names holes → are_spelled holes (place_of tree t) (tokens_like (token_of tree t).kind) ≡ true

-- it is of one of these kinds, too
abbrev pub IsMark : Syntax → List TokenNo → List SyntaxKind → ℕ → Type 0
IsMark tree names kinds t =
    (holes : Holes) → AreNames tree names holes
    → is_leaf holes (place_of tree t) kinds (token_of tree t).kind (tokens_like (token_of tree t).kind) ≡ true

-- a node is a name that stands for an expression
abbrev pub IsHeld : Syntax → List TokenNo → ℕ → Type 0
IsHeld tree names n =
    (holes : Holes) → AreNames tree names holes
    → is_held holes (place_of tree (node_of tree n).first) (node_of tree n).kind (forest_in (node_of tree n).children) ≡ true

-- a node is a name of these kinds that stands for itself
abbrev pub IsNameRef : Syntax → List TokenNo → List SyntaxKind → ℕ → Type 0
IsNameRef tree names kinds n =
    (holes : Holes) → AreNames tree names holes
    → is_name_ref holes (place_of tree (node_of tree n).first) kinds (node_of tree n).kind (forest_in (node_of tree n).children) ≡ true

-- a node is a segment of a path that is a name
abbrev pub IsSegment : Syntax → List TokenNo → ℕ → Type 0
IsSegment tree names n =
    (holes : Holes) → AreNames tree names holes
    → is_segment holes (place_of tree (node_of tree n).first) (node_of tree n).kind (forest_in (node_of tree n).children) ≡ true

-- below a node stands a path of names
abbrev pub IsPathAt : Syntax → List TokenNo → ℕ → Type 0
IsPathAt tree names n =
    (holes : Holes) → AreNames tree names holes
    → is_path holes (place_of tree (node_of tree n).first) (forest_in (node_of tree n).children) ≡ true
