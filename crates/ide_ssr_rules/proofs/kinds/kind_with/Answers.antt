use Rattle.std.proofs.Common.{rules}
use Rattle.ide_ssr_rules.proofs.kinds.kind_with.Goals as goal

pub returns : goal.returns
returns c = search rules steps 340000

pub returns-in_default : goal.returns-in_default
returns-in_default c = search rules steps 144000

pub returns-in_err-side : goal.returns-in_err-side
returns-in_err-side c = search rules steps 500000

pub returns-in_default-2 : goal.returns-in_default-2
returns-in_default-2 c = search rules steps 560000
