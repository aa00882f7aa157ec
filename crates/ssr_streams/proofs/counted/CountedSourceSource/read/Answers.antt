use Rattle.std.proofs.Common.{rules}
use Rattle.ssr_streams.proofs.counted.CountedSourceSource.read.Goals as goal

pub returns-in-Ok-clause-ok : goal.returns-in-Ok-clause-ok
returns-in-Ok-clause-ok g c = search rules steps 500000
