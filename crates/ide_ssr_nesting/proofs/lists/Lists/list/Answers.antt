use Rattle.std.proofs.Common.{take, drop, ◌-◌, ap, ◌∙◌, subst}
use Rattle.ide_ssr_nesting.specs.Lists.{Listing}
use Rattle.ide_ssr_nesting.specs.Private.Rows.{AreSorted}
use Rattle.ide_ssr_nesting.proofs.Listed.{start_end, listed_between}
use Rattle.ide_ssr_nesting.proofs.lists.Lists.list.Goals as goal

pub slice_bounds-result-count : goal.slice_bounds-result-count
slice_bounds-result-count c =
    let sorted = subst AreSorted c.self.view_is c.self.invariant in
    start_end _ sorted.in_order c.args.holder _ _ c.start_of-start.ensures.bound c.end_of-end.ensures.bound c.start_of-start.ensures.point c.end_of-end.ensures.point

pub slice_bounds-result-start : goal.slice_bounds-result-start
slice_bounds-result-start c =
    let sorted = subst AreSorted c.self.view_is c.self.invariant in
    start_end _ sorted.in_order c.args.holder _ _ c.start_of-start.ensures.bound c.end_of-end.ensures.bound c.start_of-start.ensures.point c.end_of-end.ensures.point

pub returns : goal.returns
returns c =
    let sorted = subst AreSorted c.self.view_is c.self.invariant in
    ap (λ l. take (c.end_of-end.result - c.start_of-start.result) (drop c.start_of-start.result l)) (c.deref.ensures.value ∙ ap (λ (l : Listing). l.places) c.self.view_is)
    ∙ listed_between _ sorted.in_order c.args.holder _ _ c.start_of-start.ensures.bound c.end_of-end.ensures.bound c.start_of-start.ensures.point c.end_of-end.ensures.point
    c.args.self.now.places sorted.counted
