-- It is the reading of the stated language.
use Rattle.ide_ssr_rules.specs.Rules.{pattern_reading}
use Rattle.ide_ssr_rules.proofs.rules.SsrPattern.parse.Goals as goal

pub returns : goal.returns
unfolding pattern_reading
returns c = c.parse_of.ensures
