use Rattle.std.proofs.Common.{take}
use Rattle.std.specs.Prelude.{flat_map}
use Rattle.ssr_writing.specs.Disk.{places}
use Rattle.ssr_writing.specs.Private.Taken.{AreTaken}
use Rattle.ssr_writing.proofs.apart.keep_apart.Given as goal

abbrev pub invariant-loop-index : goal.invariant-loop-index
invariant-loop-index l = AreTaken l.taken (flat_map places (take l.index l.files))
