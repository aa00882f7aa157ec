use Rattle.ssr_package.specs.Private.Texts.{AreKept}
use Rattle.ssr_package.proofs.reading.Reading.read_reached.Given as goal

abbrev pub invariant-loop : goal.invariant-loop
invariant-loop g l = AreKept (g.F.Reads.gave l.reader) l.texts
