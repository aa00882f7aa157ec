use Rattle.ssr_package.specs.Private.Texts.{AreKept}
use Rattle.ssr_package.proofs.reading.Reading.give_all.Given as goal

abbrev pub invariant-loop-path : goal.invariant-loop-path
invariant-loop-path g l = AreKept (g.F.Reads.gave l.reader) l.texts
