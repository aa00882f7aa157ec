use Rattle.std.proofs.Common.{rules}
use Rattle.ide_ssr_rules.proofs.var.VarDisplay.fmt.Goals as goal

pub returns : goal.returns
returns g c = search rules steps 1300000
