-- Private: what the steps of reading a text give.
use Rattle.std.specs.Prelude.{◌≡◌, ◌≢◌, ℕ, ◌^◌, ◌<◌, Bool, true, not, List, [], ◌∷◌, length, map, Option, Some, None, Result, Ok, Err}
use Rattle.ssr_syntax_kinds.specs.Kinds.{is_trivia}
use Rattle.ssr_syntax_kinds.specs.declared.kinds.SyntaxKind.{SyntaxKind}
use Rattle.ssr_syntax_kinds.specs.declared.token_rows.TokenRow.{TokenRow}
use Rattle.ssr_syntax_lex.specs.Tokens.{row_of, rows_in, spell, Tiles}
use Rattle.ssr_syntax_lex.specs.declared.tokens.RawToken.{RawToken}
use Rattle.ssr_syntax_forms.specs.declared.tokens.Token.{Token}
use Rattle.ssr_syntax_kinds.specs.declared.reach.Reach.{Reach}
use Rattle.ssr_syntax.specs.Reading.{IsLexFault, reading, trimmed}
use Rattle.ssr_syntax_rows.specs.SolidKinds.{solid_kinds}
use Rattle.ssr_syntax_rows.specs.Solid.{solid_tokens}
use Rattle.ssr_syntax.specs.declared.syntax_error.SyntaxError.{SyntaxError}
use Rattle.ssr_syntax_forms.specs.declared.fault.Fault.{Fault}
use Rattle.ssr_syntax_forms.specs.declared.fault.Fault.TheVariants as faults
use Rattle.ssr_syntax_forms.specs.Trees.{Forest}
use Rattle.ssr_syntax_types.specs.declared.goals.Goal.{Goal}
use Rattle.ssr_syntax_forms.specs.declared.rows.Output.{Output}
use Rattle.ssr_syntax_forms.specs.Parser.{HasWritten, unwritten}
use Rattle.ssr_syntax_forms.specs.Written.{writes}

-- The answer is the reading's: what is written of its forest in front of tokens of these kinds, or its fault. Want of
-- memory says nothing.
abbrev pub IsReading : List SyntaxKind → Result Output Fault → Result Forest Fault → Type 0
IsReading kinds (Ok out) read = (z : Forest) × (read ≡ Ok z) × HasWritten out (writes z (unwritten kinds))
IsReading kinds (Err e) read = e ≢ faults.Memory → read ≡ Err e

-- the rows of a text's tokens, or why there are none
abbrev pub IsLexed : List ℕ → Result (List TokenRow) SyntaxError → Type 0
IsLexed text (Ok rows) = (length text < 2 ^ 32) × (rows_in text ≡ Some rows)
IsLexed text (Err e) = IsLexFault text e

-- a text is cut into these tokens: their rows, and the solid ones of them
pub record IsCut (text : List ℕ) (rows : List TokenRow) (solid : List Token) (raw : List RawToken) : Type 0 where
  pub are : rows ≡ map row_of raw
  pub tiles : Tiles text raw
  pub spelled : spell text raw ≡ text
  pub solid_are : solid ≡ solid_tokens raw

-- a text is cut into these tokens, and this is written of what they are read as
pub record IsWritten (reach : Reach) (goal : Goal) (text : List ℕ) (rows : List TokenRow) (out : Output) (raw : List RawToken) : Type 0 where
  pub are : rows ≡ map row_of raw
  pub tiles : Tiles text raw
  pub spelled : spell text raw ≡ text
  pub reads : (z : Forest) × (reading reach goal (solid_tokens raw) ≡ Ok z) × HasWritten out (writes z (unwritten (map (λ row. row.kind) rows)))

-- the rows and the solid tokens of a text without the white space around it
pub record AreTokensOf (text : List ℕ) (rows : List TokenRow) (solid : List Token) : Type 0 where
  pub short : length (trimmed text) < 2 ^ 32
  pub lexed : rows_in (trimmed text) ≡ Some rows
  pub solid_are : solid ≡ solid_kinds (map (λ row. row.kind) rows)

-- where a token ends in front of the next row, or of the end of the text
abbrev pub end_before : ℕ → Option TokenRow → ℕ
end_before total None = total
end_before total (Some next) = next.start

-- no white space or comment stands in front
abbrev pub kinds_begin_solid : List SyntaxKind → Bool
kinds_begin_solid [] = true
kinds_begin_solid (kind ∷ kinds) = not (is_trivia kind)
