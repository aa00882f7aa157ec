use Rattle.std.proofs.Common.{◌≡◌, ◌-◌, ◌+◌, length, get_or, sym, ap, ◌∙◌, subst, arith}
use Rattle.std.proofs.lemmas.Bool.{eqb-false}
use Rattle.ide_ssr_nesting.specs.Lists.{Listing}
use Rattle.ide_ssr_nesting.specs.Private.Rows.{AreSorted}
use Rattle.ide_ssr_nesting.proofs.Listed.{not_listed}
use Rattle.ide_ssr_nesting.proofs.lists.Lists.are_before.Goals as goal

pub returns : goal.returns
returns c = λ is.
    let lists = c.args.self.now in
    let sorted = subst AreSorted c.self.view_is c.self.invariant in
    let before = c.len-last.result - 1 in
    let last = c.index.result.now in
    let same = ap (λ (l : Listing). length l.holders) c.self.view_is in
    let some = eqb-false _ 0 (sym c.is_empty.ensures ∙ c.if-is_empty.false) in
    let counted : 1 + before ≡ length lists.holders = omega (arith, same, some, c.len-last.ensures) in
    not_listed lists.holders sorted.in_order c.args.holder lists.places before last counted
    (subst (λ (l : Listing). last ≡ get_or l.holders before last) c.self.view_is c.index.ensures) (sym c.comes_before.ensures ∙ is)
