use Rattle.std.proofs.Common.{rules}
use Rattle.ssr_streams.proofs.counted.CountedSink.new.Goals as goal

pub returns : goal.returns
returns g c = search rules steps 200000
