use Rattle.std.proofs.Common.{sym, subst}
use Rattle.std.specs.Prelude.{◌↔◌, IsTrue}
use Rattle.ssr_base_trees.specs.Workspace.{trees}
use Rattle.ide_ssr_nesting.specs.Kept.{LiesUnder, LiesInPlaceholder}
use Rattle.ide_ssr_nesting.proofs.Under.{some_place}
use Rattle.ide_ssr_nesting.proofs.kept.holds_own_node.Goals as goal

pub returns : goal.returns
returns c =
    let ts = trees c.args.workspace.now in
    let m = c.args.m.now in
    subst (λ b. IsTrue b ↔ LiesInPlaceholder ts m m) (sym c.is_some.ensures)
    (some_place (LiesUnder ts m m) c.binding_over.result c.binding_over.ensures)
