use Rattle.std.proofs.Common.{rules}
use Rattle.ide_ssr_refusals.proofs.refusals.Refusal.told.Goals as goal

pub returns-in-Ok : goal.returns-in-Ok
returns-in-Ok c = search rules steps 200000

pub returns-in-Err : goal.returns-in-Err
returns-in-Err c = search rules steps 200000
