-- It is the reading of the stated language.
use Rattle.ssr_syntax.specs.Reading.{file_reading}
use Rattle.ssr_syntax.proofs.TextLaws.{file_answers_read}
use Rattle.ssr_syntax.proofs.reading.parse_file.Goals as goal

pub returns-clause-answers : goal.returns-clause-answers
unfolding file_reading
returns-clause-answers c = c.parse_file_of.ensures.answers

pub returns-clause-sound : goal.returns-clause-sound
returns-clause-sound c = c.parse_file_of.ensures.sound

pub returns-clause-read : goal.returns-clause-read
returns-clause-read c = file_answers_read c.args.text.now c.parse_file_of.result c.utf8.text (returns-clause-answers c)

pub returns-clause-complete : goal.returns-clause-complete
returns-clause-complete c = c.parse_file_of.ensures.complete
