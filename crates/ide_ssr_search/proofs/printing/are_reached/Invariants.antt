use Rattle.std.proofs.Common.{ℕ, ◌<◌, get_or}
use Rattle.ide_ssr_resolved_rule.specs.declared.used_paths.UsedPath.{UsedPath}
use Rattle.ide_ssr_search.specs.Printing.{IsReached}
use Rattle.ide_ssr_search.proofs.printing.are_reached.Given as goal

abbrev pub invariant-loop-path : goal.invariant-loop-path
invariant-loop-path g l = (k : ℕ) (d : UsedPath) → k < l.path-index → IsReached (g.S.Semantics.meanings l.semantics) l.scope (get_or l.paths k d).res
