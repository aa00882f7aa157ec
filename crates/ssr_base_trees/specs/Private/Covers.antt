-- Private: what covers the origins of tokens, as it is stored for each node of a tree.
use Rattle.std.specs.Prelude.{ℕ, ◌+◌, ◌≡◌, ◌≤◌, List, length, slice_get, Option, Some}
use Rattle.ssr_syntax_tree.specs.Syntax.{Syntax, node_count}
use Rattle.ssr_syntax_tree.specs.Places.{node_of}
use Rattle.ssr_base_trees.specs.declared.covers.Cover.{Cover as Stored}
use Rattle.ssr_base_trees.specs.Origins.{Span, plain_cover}
use Rattle.ssr_base_trees.specs.Workspace.{cover_below}

-- what is stored of the nodes from a number on covers the origins of their tokens
abbrev pub CoversFrom : Syntax → List (Option Span) → ℕ → List Stored → Type 0
CoversFrom syntax origins from list =
    (n : ℕ) (cover : Stored) → from ≤ n → slice_get list n ≡ Some cover → plain_cover cover ≡ cover_below origins (node_of syntax n)

-- what is stored covers the origins of the tokens of each node of a tree, one cover for each
pub record AreCovers (syntax : Syntax) (origins : List (Option Span)) (list : List Stored) : Type 0 where
  pub counted : length list ≡ 1 + node_count syntax.children
  pub each : CoversFrom syntax origins 0 list
