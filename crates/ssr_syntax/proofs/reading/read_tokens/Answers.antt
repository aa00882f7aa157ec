use Rattle.std.proofs.Common.{◌≡◌, ◌∙◌, ap, List, Some}
use Rattle.std.specs.Prelude.{string_bytes}
use Rattle.std.proofs.lemmas.Str.{IsUtf8-string_bytes}
use Rattle.ssr_syntax_lex.specs.declared.tokens.RawToken.{RawToken}
use Rattle.ssr_syntax_lex.specs.Tokens.{tokens}
use Rattle.ssr_syntax.specs.Private.Reading.{IsCut}
use Rattle.ssr_syntax_rows.specs.SolidKinds.{solid_kinds}
use Rattle.ssr_syntax.proofs.TextRows.{known_rows, these_rows, cut_of_rows}
use Rattle.ssr_syntax.proofs.reading.read_tokens.Goals as goal
use Rattle.ssr_syntax.proofs.reading.read_tokens.Goals.{In_ok-solid}

-- the text is cut into its tokens
cut_is : (c : In_ok-solid) (raw : List RawToken) → tokens (string_bytes c.args.text) ≡ Some raw
    → IsCut (string_bytes c.args.text) c.args.rows c.in_ok-solid.solid.items raw
cut_is c raw e =
    let text = string_bytes c.args.text in
    cut_of_rows text c.args.rows c.in_ok-solid.solid.items raw
    (these_rows text c.args.rows raw (IsUtf8-string_bytes c.args.text) c.requires.lexed e)
    (c.in_ok-solid.ensures ∙ ap solid_kinds c.kinds.ensures)

pub read_solid-requires : goal.read_solid-requires
read_solid-requires c =
    let known = known_rows (string_bytes c.args.text) c.args.rows (IsUtf8-string_bytes c.args.text) c.requires.lexed in
    record { short = c.requires.short; cut = (known.0, cut_is (goal.at.read_solid-requires c).In_ok-solid known.0 known.1.lexed) }

pub returns : goal.returns
returns c raw e = c.read_solid.ensures raw (cut_is (goal.at.returns c).In_ok-solid raw e)
