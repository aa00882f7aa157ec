use Rattle.ide_ssr.specs.Private.Starts.{AreStarts}
use Rattle.ide_ssr.proofs.starts.starts.Given as goal

abbrev pub invariant-loop-place : goal.invariant-loop-place
invariant-loop-place l = AreStarts l.workspace l.m l.place l.starts.items
