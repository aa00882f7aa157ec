-- Private: pieces of a path by the numbers of their tokens.
use Rattle.std.specs.Prelude.{ℕ, ◌-◌, ◌≤◌, List, take, drop}
use Rattle.ssr_syntax_tree.specs.Syntax.{Token, Syntax, token_count, tokens_of}
use Rattle.ide_ssr_resolving.specs.declared.keys.Piece.{Piece}

-- the tokens from one number up to before another one
abbrev pub tokens_between : Syntax → ℕ → ℕ → List Token
tokens_between tree first past = take (past - first) (drop first (tokens_of tree))

abbrev pub tokens_at : Syntax → Piece → List Token
tokens_at tree piece = tokens_between tree piece.first piece.past

abbrev pub HasPiece : Syntax → Piece → Type 0
HasPiece tree piece = (piece.first ≤ piece.past) × (piece.past ≤ token_count tree.children)
