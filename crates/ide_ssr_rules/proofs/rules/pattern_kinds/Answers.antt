use Rattle.std.proofs.Common.{rules}
use Rattle.ide_ssr_rules.proofs.rules.pattern_kinds.Goals as goal

pub returns : goal.returns
returns c = search rules steps 92000
