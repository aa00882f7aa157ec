-- It is the reading of the stated language.
use Rattle.ssr_syntax.specs.Reading.{fragment_reading}
use Rattle.ssr_syntax.proofs.fragment_text.FragmentText.read.Goals as goal

pub returns-clause-answers : goal.returns-clause-answers
unfolding fragment_reading
returns-clause-answers c = c.read_of.ensures.answers

pub returns-clause-sound : goal.returns-clause-sound
returns-clause-sound c = c.read_of.ensures.sound

pub returns-clause-complete : goal.returns-clause-complete
returns-clause-complete c = c.read_of.ensures.complete
