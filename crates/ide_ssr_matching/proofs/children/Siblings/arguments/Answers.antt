use Rattle.ide_ssr_matching.proofs.Arguments.{all_below, no_segment, segment_arguments, segment_below}
use Rattle.ide_ssr_matching.proofs.Bare.{below_has}
use Rattle.ide_ssr_matching.proofs.children.Siblings.arguments.Goals as goal

pub returns-in_default-clause-gives : goal.returns-in_default-clause-gives
returns-in_default-clause-gives c = no_segment c.args.tree.now c.args.path.0 _ c.in_default.ensures.node c.pass_all.ensures

pub pass_to_arguments-requires : goal.pass_to_arguments-requires
pass_to_arguments-requires c =
    below_has c.args.tree.now c.in-Some.segment.0 _ (all_below c.args.tree.now c.in-Some.segment.0 _ c.in-Some.ensures.has c.of-siblings.ensures)

pub returns-clause-gives : goal.returns-clause-gives
returns-clause-gives c =
    segment_arguments c.args.tree.now c.args.path.0 c.in-Some.segment _ _ c.in-Some.ensures.node c.in-Some.ensures.has c.of-siblings.ensures c.pass_to_arguments.ensures.gives

pub returns-clause-below : goal.returns-clause-below
returns-clause-below c =
    segment_below c.args.tree.now c.args.path.0 c.in-Some.segment _ _ c.requires c.in-Some.ensures.node c.in-Some.ensures.has c.of-siblings.ensures c.pass_to_arguments.ensures.kept
