-- Which placeholders stand in a token tree.
use Rattle.std.specs.Prelude.{ℕ, ◌+◌, List, [], ◌∷◌, ◌++◌, Option, if◌then◌else◌, option_to_list}
use Rattle.ssr_syntax_kinds.specs.Kinds.{is_trivia}
use Rattle.ssr_syntax_tree.specs.Syntax.{Token}

-- the placeholders that tokens are, trivia aside, where the first token has the number t
abbrev pub placeholders_from : (ℕ → Option ℕ) → ℕ → List Token → List ℕ
placeholders_from at t [] = []
placeholders_from at t (token ∷ rest) = (if is_trivia token.kind then [] else option_to_list (at t)) ++ placeholders_from at (1 + t) rest
