use Rattle.ssr_package.specs.Private.Texts.{AreKept}
use Rattle.ssr_package.proofs.reading.Reading.read_folder.Given as goal

abbrev pub invariant-loop-name : goal.invariant-loop-name
invariant-loop-name g l = AreKept (g.F.Reads.gave l.reader) l.texts
