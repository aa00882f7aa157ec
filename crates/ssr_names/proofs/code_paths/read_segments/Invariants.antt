use Rattle.std.proofs.Common.{take}
use Rattle.ssr_names.specs.CodePaths.{AreRead}
use Rattle.ssr_names.proofs.code_paths.read_segments.Given as goal

abbrev pub invariant-loop-segment : goal.invariant-loop-segment
invariant-loop-segment l = AreRead l.fn.start (take l.segment-index l.segments) l.read.start l.read.names.items
