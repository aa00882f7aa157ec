use Rattle.std.proofs.Common.{rules}
use Rattle.ide_ssr_rules.proofs.resolved.resolve_pattern.Goals as goal

pub returns-clause-kinds : goal.returns-clause-kinds
returns-clause-kinds g c = search rules steps 200000
