use Rattle.ide_ssr_matching.proofs.Arguments.{counted_used, counted_other, all_below}
use Rattle.ide_ssr_matching.proofs.children.Siblings.counted.Goals as goal

pub returns-in-Some-clause-gives : goal.returns-in-Some-clause-gives
returns-in-Some-clause-gives c = counted_used c.args.used _ _ _ _ c.in-Some.is c.arguments.ensures.gives

pub returns-in-None-clause-gives : goal.returns-in-None-clause-gives
returns-in-None-clause-gives c = counted_other c.args.tree.now c.args.node.0 c.args.used _ _ c.requires c.in-None.is c.of.ensures

pub returns-in-None-clause-below : goal.returns-in-None-clause-below
returns-in-None-clause-below c = all_below c.args.tree.now c.args.node.0 _ c.requires c.of.ensures
