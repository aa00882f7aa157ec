-- It is the reading of the stated language.
use Rattle.std.specs.Prelude.{string_bytes}
use Rattle.std.proofs.lemmas.Str.{IsUtf8-string_bytes}
use Rattle.ssr_syntax.specs.Reading.{file_reading}
use Rattle.ssr_syntax.proofs.TextLaws.{file_answers_read}
use Rattle.ssr_syntax.proofs.reading.parse_file_owned.Goals as goal

pub returns-clause-answers : goal.returns-clause-answers
unfolding file_reading
returns-clause-answers c = c.parse_file_owned_of.ensures.answers

pub returns-clause-sound : goal.returns-clause-sound
returns-clause-sound c = c.parse_file_owned_of.ensures.sound

pub returns-clause-read : goal.returns-clause-read
returns-clause-read c =
    file_answers_read (string_bytes c.args.text) c.parse_file_owned_of.result (IsUtf8-string_bytes c.args.text) (returns-clause-answers c)

pub returns-clause-complete : goal.returns-clause-complete
returns-clause-complete c = c.parse_file_owned_of.ensures.complete
