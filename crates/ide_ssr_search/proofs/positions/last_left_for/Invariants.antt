use Rattle.std.proofs.Common.{ℕ}
use Rattle.ssr_syntax_tree.specs.Places.{HasNode}
use Rattle.ide_ssr_search.specs.Positions.{Leads}
use Rattle.ide_ssr_search.proofs.PositionNodes.{way}
use Rattle.ide_ssr_search.proofs.positions.last_left_for.Given as goal

abbrev pub invariant-loop-next : goal.invariant-loop-next
invariant-loop-next l = record {
  has : HasNode l.tree l.at.0;
  so_far : (last : ℕ) → Leads l.tree l.at.0 last → Leads l.tree l.fn.node.0 last;
}

abbrev pub decreases-loop-next : goal.decreases-loop-next
decreases-loop-next l = way l.tree l.at.0
