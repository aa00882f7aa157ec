use Rattle.std.specs.Prelude.{string_bytes}
use Rattle.std.proofs.Common.{ap, refl, sym, ◌∙◌, ◌<◌, ◌^◌, length, subst}
use Rattle.std.proofs.lemmas.Str.{IsUtf8-string_bytes}
use Rattle.ssr_syntax_lex.specs.Tokens.{rows_in}
use Rattle.ssr_syntax.specs.Reading.{Answers, file_reading_of}
use Rattle.ssr_syntax.proofs.Texts.{told_on}
use Rattle.ssr_syntax.proofs.TextLaws.{file_fault, file_lexed, file_answers, file_answers_read_of, file_complete}
use Rattle.ssr_syntax.proofs.TextRows.{known_rows}
use Rattle.ssr_syntax.proofs.reading.parse_file_owned_of.Goals as goal
use Rattle.ssr_syntax.proofs.reading.parse_file_owned_of.Goals.{After-read_tokens}

pub returns-in_err-rows-clause-answers : goal.returns-in_err-rows-clause-answers
returns-in_err-rows-clause-answers c =
    let text = string_bytes c.args.text in
    told_on c.in_err-rows.field-0.0 c.from_residual.result (file_reading_of c.args.reach text) text c.from_residual.ensures.0 c.from_residual.ensures.1
    (file_fault c.args.reach text c.as_str.result.now c.in_err-rows.field-0.0 c.as_str.ensures.value c.in_err-rows.ensures)

pub read_tokens-requires : goal.read_tokens-requires
read_tokens-requires c = record {
  short = subst (λ text. length text < 2 ^ 32) c.as_str.ensures.value c.in_ok-rows.ensures.0;
  lexed = ap rows_in (sym c.as_str.ensures.value) ∙ c.in_ok-rows.ensures.1;
}

-- the text is read as its tokens are
reads : (c : After-read_tokens) → Answers c.read_tokens.result (file_reading_of c.args.reach (string_bytes c.args.text)) (string_bytes c.args.text)
reads c =
    let text = string_bytes c.args.text in
    let known = known_rows text c.in_ok-rows.rows (IsUtf8-string_bytes c.args.text) (ap rows_in (sym c.as_str.ensures.value) ∙ c.in_ok-rows.ensures.1) in
    file_lexed c.args.reach text text known.0 c.read_tokens.result refl (subst (λ text. length text < 2 ^ 32) c.as_str.ensures.value c.in_ok-rows.ensures.0)
    known.1.lexed (c.read_tokens.ensures known.0 known.1.lexed)

pub returns-clause-answers : goal.returns-clause-answers
returns-clause-answers c = reads (goal.at.returns-clause-answers c).After-read_tokens

pub returns-clause-sound : goal.returns-clause-sound
returns-clause-sound c =
    file_answers c.args.reach (string_bytes c.args.text) c.read_tokens.result (IsUtf8-string_bytes c.args.text) (reads (goal.at.returns-clause-sound c).After-read_tokens)

pub returns-clause-read : goal.returns-clause-read
returns-clause-read c =
    file_answers_read_of c.args.reach (string_bytes c.args.text) c.read_tokens.result (IsUtf8-string_bytes c.args.text)
    (reads (goal.at.returns-clause-read c).After-read_tokens)

pub returns-clause-complete : goal.returns-clause-complete
returns-clause-complete c syntax short fits =
    file_complete c.args.reach (string_bytes c.args.text) syntax c.read_tokens.result short fits (reads (goal.at.returns-clause-complete c).After-read_tokens)
