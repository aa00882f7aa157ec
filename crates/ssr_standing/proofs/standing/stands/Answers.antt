-- It is read in the stated language.
use Rattle.ssr_syntax.specs.Reading.{file_reading}
use Rattle.ssr_standing.proofs.standing.stands.Goals as goal

pub returns : goal.returns
unfolding file_reading
returns c = c.stands_of.ensures
