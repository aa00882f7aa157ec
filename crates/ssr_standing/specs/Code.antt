-- Where the code of a text ends: in front of the white space and the comments at its end.
use Rattle.std.specs.Prelude.{ℕ, ◌^◌, if◌then◌else◌, nat_lt, List, [], ◌∷◌, ◌++◌, codes, drop, length, take}
use Rattle.std.specs.Option.{option_map_or}
use Rattle.ssr_syntax_kinds.specs.Kinds.{is_trivia}
use Rattle.ssr_syntax_lex.specs.Tokens.{tokens}
use Rattle.ssr_syntax_lex.specs.declared.tokens.RawToken.{RawToken}

-- the end of the last of some tokens that is neither white space nor a comment; another place, where all are
abbrev pub end_of_last : ℕ → List RawToken → ℕ
end_of_last end [] = end
end_of_last end (t ∷ ts) = end_of_last (if is_trivia t.kind then end else t.range.end) ts

-- where the code of a text ends; a text that has no tokens, or is too long to be read, is code to its end
unfoldable pub code_end : List ℕ → ℕ
code_end text = if nat_lt (length text) (2 ^ 32) then option_map_or (end_of_last 0) (tokens text) (length text) else length text

-- a text with its code in parentheses, and the comments that follow behind them
abbrev pub parenthesized : List ℕ → List ℕ
parenthesized text = codes "(" ++ (take (code_end text) text ++ (codes ")" ++ drop (code_end text) text))
