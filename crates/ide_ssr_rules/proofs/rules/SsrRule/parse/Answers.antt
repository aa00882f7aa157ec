-- It is the reading of the stated language.
use Rattle.ide_ssr_rules.specs.Rules.{rule_reading}
use Rattle.ide_ssr_rules.proofs.rules.SsrRule.parse.Goals as goal

pub returns-clause-reads : goal.returns-clause-reads
unfolding rule_reading
returns-clause-reads c = c.parse_of.ensures.reads

pub returns-clause-uses : goal.returns-clause-uses
returns-clause-uses c = c.parse_of.ensures.uses
