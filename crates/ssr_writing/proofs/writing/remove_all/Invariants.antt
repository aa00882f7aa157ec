use Rattle.std.proofs.Common.{◌≡◌, ◌++◌, map, take, string_bytes}
use Rattle.ssr_writing.specs.Disk.{Removed}
use Rattle.ssr_writing.proofs.writing.remove_all.Given as goal

abbrev pub invariant-loop-path : goal.invariant-loop-path
invariant-loop-path g l =
    g.D.Disk.calls l.disk ≡ g.D.Disk.calls l.initial.disk ++ map (λ path. Removed (string_bytes path)) (take l.path-index l.paths)
