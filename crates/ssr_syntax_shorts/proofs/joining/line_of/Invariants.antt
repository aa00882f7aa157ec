use Rattle.std.proofs.Common.{take}
use Rattle.ssr_syntax_shorts.specs.Private.Joining.{AreJoined}
use Rattle.ssr_syntax_shorts.proofs.joining.line_of.Given as goal

abbrev pub invariant-loop-part : goal.invariant-loop-part
invariant-loop-part l = AreJoined l.reach (take l.part-index l.parts) l.short l.placed.items
