use Rattle.std.proofs.Common.{refl, sym, subst}
use Rattle.std.specs.Prelude.{ℕ, IfNone}
use Rattle.ide_ssr_search.specs.Positions.{IsNextSibling}
use Rattle.ide_ssr_search.proofs.PositionNodes.{no_sibling}
use Rattle.ide_ssr_search.proofs.positions.next_sibling.Goals as goal

pub returns-in_err-parent-clause-none : goal.returns-in_err-parent-clause-none
returns-in_err-parent-clause-none c =
    subst (λ found. IfNone found ((m : ℕ) → ¬ IsNextSibling c.args.tree.now c.args.node.0 m)) (sym c.from_residual.ensures)
    (λ m. no_sibling c.args.tree.now c.args.node.0 m (c.in_err-parent.ensures.root.0 refl))
