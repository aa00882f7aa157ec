-- Tokens of arguments, and those that are put together.
use Rattle.std.specs.Prelude.{ℕ, List, map, All}
use Rattle.ssr_syntax.specs.declared.expansions.ExpToken.{ExpToken}
use Rattle.ssr_macro_arguments.specs.declared.arguments.ArgumentToken.{ArgumentToken}
use Rattle.ssr_macro_arguments.specs.declared.writer.Writer.{Writer}
use Rattle.ssr_macro_arguments.specs.Arguments.{Piece, Spells, argument_piece, piece_of}

-- what is put together so far
abbrev pub written : Writer → List Piece
written writer = map piece_of writer.tokens.items

-- tokens that spell what a text has where they come from
abbrev pub AreSpelled : List ℕ → List ExpToken → Type 0
AreSpelled text tokens = All (λ token. Spells text (piece_of token)) tokens

abbrev pub AreSpelledArguments : List ℕ → List ArgumentToken → Type 0
AreSpelledArguments text tokens = All (λ token. Spells text (argument_piece token)) tokens
