-- Names of a tree: tokens that stand for other expressions.
use Rattle.std.specs.Prelude.{◌≡◌, ℕ, ◌+◌, ◌==◌, false, All, List, [], ◌∷◌, is_some, length, take}
use Rattle.std.specs.List.{list_any}
use Rattle.ssr_syntax_kinds.specs.Kinds.{is_trivia}
use Rattle.ssr_syntax_tree.specs.Syntax.{Syntax, tokens_of}
use Rattle.ssr_syntax_tree.specs.Places.{token_of}
use Rattle.ssr_syntax_tree.specs.declared.number.TokenNo.{TokenNo}
use Rattle.ssr_syntax_rows.specs.Solid.{solid_tokens}
use Rattle.ssr_syntax_places.specs.Core.{Holes}
use Rattle.ssr_syntax_places.specs.PlainCore.{solid_size}
use Rattle.ssr_syntax_places.specs.Woven.{Part}

-- how many tokens the grammar reads in front of the token of this number
abbrev pub place_of : Syntax → ℕ → ℕ
place_of tree token = solid_size (take token (tokens_of tree))

-- The tokens of these numbers stand for something, and no others do. They are neither white space nor comments.
pub record AreNames (tree : Syntax) (names : List TokenNo) (holes : Holes) : Type 0 where
  pub solid : All (λ (name : TokenNo). is_trivia (token_of tree name.0).kind ≡ false) names
  pub stand : (number : ℕ) → is_some (holes number) ≡ list_any (λ (name : TokenNo). place_of tree name.0 == number) names

-- where the parts of a text have their names, which are one token each; `at` is the number of the first token
abbrev pub name_places : ℕ → List Part → List ℕ
name_places at [] = []
name_places at (p ∷ ps) = (at + length (solid_tokens p.before)) ∷ name_places ((at + length (solid_tokens p.before)) + 1) ps
