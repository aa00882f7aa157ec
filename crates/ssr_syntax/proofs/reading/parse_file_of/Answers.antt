use Rattle.std.proofs.Common.{subst, length, ◌<◌, ◌^◌}
use Rattle.ssr_syntax.specs.Reading.{file_reading_of, FitsFileOf, IsThatOrTooDeep}
use Rattle.ssr_syntax.proofs.Texts.{told_on}
use Rattle.ssr_syntax.proofs.TextLaws.{file_too_long}
use Rattle.ssr_syntax.proofs.reading.parse_file_of.Goals as goal

pub returns-in_err-check_length-clause-answers : goal.returns-in_err-check_length-clause-answers
returns-in_err-check_length-clause-answers c =
    told_on c.in_err-check_length.field-0.0 c.from_residual.result (file_reading_of c.args.reach c.args.text.now) c.args.text.now
    c.from_residual.ensures.0 c.from_residual.ensures.1
    (file_too_long c.args.reach c.args.text.now c.in_err-check_length.field-0.0 c.in_err-check_length.ensures.long)

pub returns-clause-complete : goal.returns-clause-complete
returns-clause-complete c syntax =
    subst (λ t. length t < 2 ^ 32 → FitsFileOf c.args.reach t syntax → IsThatOrTooDeep (λ tree. tree) syntax c.parse_file_owned_of.result)
    c.in_ok-from_str.ensures.ok (c.parse_file_owned_of.ensures.complete syntax)
