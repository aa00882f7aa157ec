use Rattle.std.proofs.Common.{rules}
use Rattle.ssr_streams.proofs.counted.CountedSinkSink.write.Goals as goal

pub returns-else-count-eq0-clause-ok : goal.returns-else-count-eq0-clause-ok
returns-else-count-eq0-clause-ok g c = search rules steps 2000000
