-- What holds kept matches comes in front of them, and is told by the matches alone.
use Rattle.std.proofs.Common.{◌≡◌, ℕ, ◌<◌, inl, inr, List, length, get_or, slice_get, Option, Some, None, Contains, refl, sym, ap, ◌∙◌, subst, arith}
use Rattle.std.proofs.lemmas.Bool.{cases_order}
use Rattle.std.proofs.lemmas.List.{same_lists}
use Rattle.std.proofs.lemmas.Option.{same_Some, slice_get_within, slice_get-get_or}
use Rattle.ssr_base_trees.specs.Workspace.{Workspace, PlacedTree, trees}
use Rattle.ssr_base_trees.specs.Built.{CallsAreEarlier}
use Rattle.ide_ssr_bindings.specs.Found.{FoundMatch, IsMatch}
use Rattle.ide_ssr_nesting.specs.declared.holders.Holder.{Holder}
use Rattle.ide_ssr_nesting.specs.Kept.{IsOver, ComesBefore, LiesUnder}
use Rattle.ide_ssr_nesting.specs.Holding.{IsOutermost, IsNearest, IsHeldBy, IsHeld, AreHeld, Kept, IsKept}
use Rattle.ide_ssr_nesting.specs.Laws.{HeldBehind, OneHolding}
use Rattle.ssr_syntax_tree.proofs.Lists.{all_at, pairs_at, contains_at, stands_at}
use Rattle.ide_ssr_nesting.proofs.Over.{not_before_itself, not_over, not_over_itself, over_before, one_way}
use Rattle.ide_ssr_nesting.proofs.Under.{one_placeholder}

pub same_holders : (g h : Holder) → g.place ≡ h.place → g.binding ≡ h.binding → g ≡ h
same_holders g h place binding =
    ap (λ (p : ℕ). (let made : Holder = record { place = p; binding = g.binding } in made)) place
    ∙ ap (λ (b : ℕ). (let made : Holder = record { place = h.place; binding = b } in made)) binding

module _ (trees : List PlacedTree) (grown : CallsAreEarlier trees) (kept : List FoundMatch) where
  one_nearest : (m j k : FoundMatch) → Contains kept j → Contains kept k → IsNearest trees kept m j → IsNearest trees kept m k → j ≡ k
  one_nearest m j k j_in k_in first last = elim (first.others k k_in last.over) [
    | inl same ↦ sym same
    | inr k_over ↦ elim (last.others j j_in first.over) [
      | inl same ↦ same
      | inr j_over ↦ absurd (one_way trees j k (over_before trees grown j k j_over) (over_before trees grown k j k_over))
    ]
  ]

  module _ (holders : List (Option Holder)) (held : AreHeld trees kept holders) where
    -- a match over another one has an earlier place
    over_earlier : (p n : ℕ) (k m : FoundMatch) → slice_get kept p ≡ Some k → slice_get kept n ≡ Some m → IsOver trees k m → p < n
    over_earlier p n k m k_is m_is over = elim (cases_order p n) [
      | inl same ↦ absurd (not_over_itself trees grown m (subst (λ k. IsOver trees k m) (same_Some k m (sym k_is ∙ ap (slice_get kept) same ∙ m_is)) over))
      | inr (inl less) ↦ less
      | inr (inr more) ↦ absurd (not_over trees grown k m (pairs_at (ComesBefore trees) kept n p m k held.in_order more m_is k_is) over)
    ]

    held_at : (n : ℕ) (holder : Option Holder) → slice_get holders n ≡ Some holder → (m : FoundMatch) × (slice_get kept n ≡ Some m) × IsHeld trees kept m holder
    held_at n holder is =
        let within = slice_get_within holders n holder is in
        let counted = held.counted in
        let at = stands_at kept n (omega arith) in
        (at.0, at.1, held.held n at.0 holder at.1 is)

    behind_holder : (n : ℕ) (h : Holder) → slice_get holders n ≡ Some (Some h) → (h.place < n) × (n < length kept)
    behind_holder n h is =
        let at = held_at n (Some h) is in
        let by = at.2 in
        (over_earlier h.place n by.nearest at.0 by.stands at.1 by.is_nearest.over, slice_get_within kept n at.0 at.1)

    -- each match stands at one place
    one_place : (p q : ℕ) (k : FoundMatch) → slice_get kept p ≡ Some k → slice_get kept q ≡ Some k → p ≡ q
    one_place p q k at again = elim (cases_order p q) [
      | inl same ↦ same
      | inr (inl less) ↦ absurd (not_before_itself trees k (pairs_at (ComesBefore trees) kept p q k k held.in_order less at again))
      | inr (inr more) ↦ absurd (not_before_itself trees k (pairs_at (ComesBefore trees) kept q p k k held.in_order more again at))
    ]

    not_outermost : (m : FoundMatch) (h : Holder) → IsOutermost trees kept m → IsHeldBy trees kept m h → ⊥
    not_outermost m h outermost by = outermost by.nearest (contains_at kept h.place by.nearest by.stands) by.is_nearest.over

    one_holder : (m : FoundMatch) → IsMatch trees m → (g h : Option Holder) → IsHeld trees kept m g → IsHeld trees kept m h → g ≡ h
    one_holder m match None None first last = refl
    one_holder m match None (Some h) first last = absurd (not_outermost m h first last)
    one_holder m match (Some g) None first last = absurd (not_outermost m g last first)
    one_holder m match (Some g) (Some h) first last =
        let j_in = contains_at kept g.place first.nearest first.stands in
        let k_in = contains_at kept h.place last.nearest last.stands in
        let same : first.nearest ≡ last.nearest = one_nearest m first.nearest last.nearest j_in k_in first.is_nearest last.is_nearest in
        let k_match = all_at (IsMatch trees) kept h.place last.nearest held.each last.stands in
        let under : LiesUnder trees last.nearest m g.binding = subst (λ k. LiesUnder trees k m g.binding) same first.under in
        ap (λ (h : Holder). Some h) (same_holders g h
        (one_place g.place h.place last.nearest (first.stands ∙ ap (λ (k : FoundMatch). Some k) same) last.stands)
        (one_placeholder trees last.nearest m g.binding h.binding k_match match under last.under))

  one_holders : (holders others : List (Option Holder)) → AreHeld trees kept holders → AreHeld trees kept others → holders ≡ others
  one_holders holders others held again =
      same_lists holders others (held.counted ∙ sym again.counted) (λ n d within.
      let counted = held.counted in
      let also = again.counted in
      let at = stands_at kept n (omega arith) in
      let match = all_at (IsMatch trees) kept n at.0 held.each at.1 in
      one_holder holders held at.0 match (get_or holders n d) (get_or others n d)
      (held.held n at.0 (get_or holders n d) at.1 (slice_get-get_or holders n d within))
      (again.held n at.0 (get_or others n d) at.1 (slice_get-get_or others n d (omega arith))))

-- what a placeholder holds comes behind its match
pub held_behind : (kept : Kept) → IsKept kept → HeldBehind kept
held_behind kept known n holder is =
    behind_holder (trees kept.workspace) known.built.grown kept.matches kept.holders known.held n holder is

-- what holds the matches is told by the matches
pub one_holding : OneHolding
one_holding a b known also workspace matches =
    let held : AreHeld (trees a.workspace) a.matches b.holders =
    subst (λ (w : Workspace). AreHeld (trees w) a.matches b.holders) (sym workspace)
    (subst (λ ms. AreHeld (trees b.workspace) ms b.holders) (sym matches) also.held) in
    let holders = one_holders (trees a.workspace) known.built.grown a.matches a.holders b.holders known.held held in
    ap (λ (w : Workspace). (let made : Kept = record { workspace = w; matches = a.matches; holders = a.holders } in made)) workspace
    ∙ ap (λ (ms : List FoundMatch). (let made : Kept = record { workspace = b.workspace; matches = ms; holders = a.holders } in made)) matches
    ∙ ap (λ (hs : List (Option Holder)). (let made : Kept = record { workspace = b.workspace; matches = b.matches; holders = hs } in made)) holders
