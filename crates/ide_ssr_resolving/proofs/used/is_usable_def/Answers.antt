use Rattle.std.proofs.Common.{rules}
use Rattle.ide_ssr_resolving.proofs.used.is_usable_def.Goals as goal

pub returns-in-Const : goal.returns-in-Const
returns-in-Const c = search rules steps 200000

pub returns-in_default : goal.returns-in_default
returns-in_default c = search rules steps 200000

pub returns-in-Function : goal.returns-in-Function
returns-in-Function c = search rules steps 200000

pub returns-then-not-info : goal.returns-then-not-info
returns-then-not-info c = search rules steps 200000
