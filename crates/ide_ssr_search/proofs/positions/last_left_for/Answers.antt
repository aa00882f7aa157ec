use Rattle.ide_ssr_search.specs.Positions.{stays}
use Rattle.ide_ssr_search.proofs.PositionNodes.{way_shorter, leads_on}
use Rattle.ide_ssr_search.proofs.positions.last_left_for.Goals as goal

pub loop-next-smaller : goal.loop-next-smaller
loop-next-smaller c = way_shorter c.args.tree.now c.loop-next.at.0 c.in-Some.next.0 c.loop-next.invariant.has c.in-Some.ensures.has c.in-Some.ensures.some

pub loop-next-preserved : goal.loop-next-preserved
loop-next-preserved c = record {
  has = c.in-Some.ensures.has;
  so_far = leads_on c.args.tree.now c.args.node.0 c.loop-next.at.0 c.in-Some.next.0 c.loop-next.invariant.so_far c.in-Some.ensures.some;
}

pub returns-clause-leads : goal.returns-clause-leads
returns-clause-leads c = c.loop-next.invariant.so_far c.loop-next.at.0 (stays c.loop-next.at.0 c.in_default.ensures.none)
