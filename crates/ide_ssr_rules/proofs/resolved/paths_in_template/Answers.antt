use Rattle.std.proofs.Common.{rules}
use Rattle.ide_ssr_rules.proofs.resolved.paths_in_template.Goals as goal

pub returns-in-Some : goal.returns-in-Some
returns-in-Some g c = search rules steps 200000

pub returns-in-None : goal.returns-in-None
returns-in-None g c = search rules steps 200000
