use Rattle.ssr_base_trees.specs.Workspace.{trees}
use Rattle.ide_ssr_nesting.proofs.Over.{over_same}
use Rattle.ide_ssr_nesting.proofs.kept.is_over.Goals as goal

pub returns-then-eq : goal.returns-then-eq
returns-then-eq c =
    over_same (trees c.args.workspace.now) c.args.k.now c.args.m.now c.node.result c.node-2.result c.rule.result c.rule-then-eq.result
    c.requires.built.grown c.node.ensures c.node-2.ensures c.if-eq.ensures c.rule.ensures c.rule-then-eq.ensures
