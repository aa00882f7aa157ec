use Rattle.std.proofs.Common.{◌≡◌, ◌++◌, take}
use Rattle.std.specs.Prelude.{flat_map}
use Rattle.ssr_writing.specs.Disk.{replaces}
use Rattle.ssr_writing.proofs.writing.replace_all.Given as goal

abbrev pub invariant-loop-index : goal.invariant-loop-index
invariant-loop-index g l = g.D.Disk.calls l.disk ≡ g.D.Disk.calls l.initial.disk ++ flat_map replaces (take l.index l.files)
