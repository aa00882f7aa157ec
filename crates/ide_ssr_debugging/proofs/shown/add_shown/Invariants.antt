use Rattle.ide_ssr_debugging.specs.Private.Shown.{AreShownBefore}
use Rattle.ide_ssr_debugging.proofs.shown.add_shown.Given as goal

abbrev pub invariant-loop-n : goal.invariant-loop-n
invariant-loop-n l = AreShownBefore l.workspace l.file l.snippet l.number l.n l.shown.items
