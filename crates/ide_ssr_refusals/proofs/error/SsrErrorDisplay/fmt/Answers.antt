use Rattle.std.proofs.Common.{rules}
use Rattle.ide_ssr_refusals.proofs.error.SsrErrorDisplay.fmt.Goals as goal

pub returns-in-Memory : goal.returns-in-Memory
returns-in-Memory g c = search rules steps 1600000

pub returns-in-Message : goal.returns-in-Message
returns-in-Message g c = search rules steps 1600000
