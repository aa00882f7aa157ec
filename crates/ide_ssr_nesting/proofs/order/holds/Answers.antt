use Rattle.ssr_base_trees.specs.Workspace.{trees}
use Rattle.ide_ssr_nesting.proofs.Compared.{holds_here, holds_before}
use Rattle.ide_ssr_nesting.proofs.order.holds.Goals as goal

pub returns-then-a-b : goal.returns-then-a-b
returns-then-a-b c =
    holds_here (trees c.args.workspace.now) c.requires.built.grown c.args.a c.args.b c.requires.a_in c.requires.b_in c.in-Some.tree.now c.below.result
    c.in-Some.ensures c.requires.same c.below.ensures c.if-a-b.true

pub returns-else-a-b : goal.returns-else-a-b
returns-else-a-b c =
    holds_before (trees c.args.workspace.now) c.requires.built.grown c.args.a c.args.b c.requires.a_in c.requires.b_in c.in-Some.tree.now
    c.in-Some.ensures c.requires.same c.if-a-b.false
