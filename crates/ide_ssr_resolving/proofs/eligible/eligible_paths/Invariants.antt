use Rattle.std.proofs.Common.{◌≡◌, take}
use Rattle.ide_ssr_resolving.specs.Eligible.{eligible_paths_of}
use Rattle.ide_ssr_resolving.proofs.eligible.eligible_paths.Given as goal

abbrev pub invariant-loop-path : goal.invariant-loop-path
invariant-loop-path g l = l.eligible.items ≡ eligible_paths_of (g.S.Semantics.meanings l.semantics) l.fn.tree l.fn.calls (take l.path-index l.paths)
