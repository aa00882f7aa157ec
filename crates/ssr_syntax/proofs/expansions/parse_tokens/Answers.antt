-- It is the reading of the stated language.
use Rattle.ssr_syntax.specs.Expansions.{expansion_reading}
use Rattle.ssr_syntax.proofs.expansions.parse_tokens.Goals as goal

pub returns-clause-answers : goal.returns-clause-answers
unfolding expansion_reading
returns-clause-answers c = c.parse_tokens_of.ensures.answers

pub returns-clause-sound : goal.returns-clause-sound
returns-clause-sound c = c.parse_tokens_of.ensures.sound

pub returns-clause-complete : goal.returns-clause-complete
returns-clause-complete c = c.parse_tokens_of.ensures.complete
