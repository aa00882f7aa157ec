-- How many places are passed where each token begins.
use Rattle.std.specs.Prelude.{ℕ, ◌+◌, ◌≡◌, ◌<◌, List, length, slice_index}
use Rattle.ssr_syntax_tree.specs.Syntax.{Syntax, token_count}
use Rattle.ssr_syntax_tree.specs.Places.{offset_of}
use Rattle.ssr_base_trees.specs.Origins.{Span}
use Rattle.ssr_standing.specs.Around.{passed}

-- of the first tokens, so many
pub record ArePassed (tree : Syntax) (places : List Span) (count : ℕ) (table : List ℕ) : Type 0 where
  pub counted : length table ≡ count
  pub each : (t : ℕ) → t < count → slice_index table t ≡ passed places (offset_of tree t)

-- of all tokens, and of the end of the text
abbrev pub AreAllPassed : Syntax → List Span → List ℕ → Type 0
AreAllPassed tree places table = ArePassed tree places (1 + token_count tree.children) table
