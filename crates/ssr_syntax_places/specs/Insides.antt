-- Texts that are the same but for what stands between two of their characters.
use Rattle.std.specs.Prelude.{◌≡◌, ℕ, false, List, [], ◌∷◌, ◌++◌, Some}
use Rattle.std.specs.Str.{IsUtf8}
use Rattle.ssr_syntax_lex.specs.Seams.{ends_in_line_comment}
use Rattle.ssr_syntax_lex.specs.Tokens.{tokens}
use Rattle.ssr_syntax_lex.specs.declared.tokens.RawToken.{RawToken}
use Rattle.ssr_syntax_rows.specs.Solid.{solid_tokens, pieces}

-- what stands in front, up to a character; the inside; and what stands behind it
abbrev pub with_inside : List ℕ → ℕ → List ℕ → List ℕ → List ℕ
with_inside front opening inside behind = front ++ opening ∷ (inside ++ behind)

-- the text has these tokens, and doesn't end with a comment to the end of a line, which what follows would lengthen
pub record IsLexed (text : List ℕ) (raw : List RawToken) : Type 0 where
  pub utf8 : IsUtf8 text
  pub lexes : tokens text ≡ Some raw
  pub ended : ends_in_line_comment text raw ≡ false

-- The text with this inside has the tokens of its parts, and their texts: those in front, those of the inside and those behind.
pub record HasParts (front : List ℕ) (opening : ℕ) (inside behind : List ℕ) (before within after : List RawToken) : Type 0 where
  pub raw : List RawToken
  pub lexes : tokens (with_inside front opening inside behind) ≡ Some raw
  pub solid : solid_tokens raw ≡ solid_tokens before ++ (solid_tokens within ++ solid_tokens after)
  pub texts : pieces (with_inside front opening inside behind) raw
      ≡ pieces (front ++ opening ∷ []) before ++ (pieces inside within ++ pieces behind after)

-- These tokens of the text with this inside are those of three parts, each lexed by itself.
pub record AreParts (front : List ℕ) (opening : ℕ) (inside behind : List ℕ) (raw : List RawToken) : Type 0 where
  pub before : List RawToken
  pub within : List RawToken
  pub after : List RawToken
  pub front_lexed : IsLexed (front ++ opening ∷ []) before
  pub inside_lexed : IsLexed inside within
  pub behind_lexes : tokens behind ≡ Some after
  pub parts : HasParts front opening inside behind before within after
  pub same : parts.raw ≡ raw
