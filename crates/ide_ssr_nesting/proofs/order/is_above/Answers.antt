use Rattle.ssr_base_trees.specs.Workspace.{trees}
use Rattle.ide_ssr_nesting.proofs.Compared.{above_itself, above_other}
use Rattle.ide_ssr_nesting.proofs.order.is_above.Goals as goal

pub returns-then-eq : goal.returns-then-eq
returns-then-eq c = above_itself (trees c.args.workspace.now) c.args.a c.args.b c.is_built.ensures.grown c.if-eq.ensures

pub returns : goal.returns
returns c = above_other (trees c.args.workspace.now) c.args.a c.args.b c.is_at_or_above.result c.if-eq.ensures c.is_at_or_above.ensures
