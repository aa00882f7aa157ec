use Rattle.std.proofs.Common.{◌≡◌, drop}
use Rattle.ide_ssr_rewriting.specs.Private.Clashes.{first_behind}
use Rattle.ide_ssr_rewriting.proofs.clashes.first_behind.Given as goal

abbrev pub invariant-loop-next : goal.invariant-loop-next
invariant-loop-next l = first_behind l.known (drop l.next-index l.behind) ≡ first_behind l.fn.first l.fn.behind
