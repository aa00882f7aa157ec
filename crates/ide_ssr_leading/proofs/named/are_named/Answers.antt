use Rattle.std.proofs.Common.{arith}
use Rattle.ssr_base_trees.specs.Workspace.{trees}
use Rattle.ide_ssr_leading.proofs.Naming.{named_none, named_more, named_tree, named_all}
use Rattle.ide_ssr_leading.proofs.named.are_named.Goals as goal

pub loop-number-init : goal.loop-number-init
loop-number-init c = named_none (trees c.args.workspace.now)

pub loop-number-preserved : goal.loop-number-preserved
loop-number-preserved c =
    let w = c.args.workspace.now in
    let n = c.loop-number.number in
    named_more w n (named_tree w n c.in-Some.tree.now c.in-Some.ensures (omega (arith, c.node_count.ensures))) c.loop-number.invariant

pub returns-clause-named : goal.returns-clause-named
returns-clause-named c =
    named_all c.args.workspace.now c.loop-number.number c.file_count.ensures.built (omega (arith, c.file_count.ensures.count, c.expansion_count.ensures)) c.loop-number.invariant
