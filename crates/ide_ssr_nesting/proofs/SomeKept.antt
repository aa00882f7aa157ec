-- There are kept ones of any matches, and something holds each of them.
use Rattle.std.proofs.Common.{◌≡◌, ℕ, ◌<◌, ◌⊎◌, inl, inr, List, [], ◌∷◌, ◌++◌, length, slice_get, Option, Some, None, IsSomeAnd, All, Contains, refl, sym, ap, ◌∙◌, subst, arith}
use Rattle.std.proofs.lemmas.Bool.{cases_eq}
use Rattle.std.proofs.lemmas.List.Elements.{All-contains, All-contains_itself}
use Rattle.std.proofs.lemmas.Option.{same_Some, slice_get_within}
use Rattle.ssr_syntax_tree.proofs.Lists.{all_at, place_in, stands_at}
use Rattle.ssr_base_trees.specs.Workspace.{Workspace, PlacedTree, FileSpan, trees, original_range}
use Rattle.ssr_base_trees.specs.Built.{IsBuilt, IsNodeOf, CallsAreEarlier}
use Rattle.ssr_base_trees.specs.Laws.{LiesIn}
use Rattle.ide_ssr_bindings.specs.declared.bindings.Binding.{Binding}
use Rattle.ide_ssr_bindings.proofs.Deciding.{Decided, both, either, likewise, of_some, last_of, less, lies_in}
use Rattle.ide_ssr_bindings.specs.Found.{FoundMatch, IsMatch, held_range}
use Rattle.ide_ssr_nesting.specs.declared.holders.Holder.{Holder}
use Rattle.ide_ssr_nesting.specs.Order.{place, end_place}
use Rattle.ide_ssr_nesting.specs.Kept.{LiesWithin, IsOver, LiesUnder, Fits, ComesBefore, AreKept}
use Rattle.ide_ssr_nesting.specs.Holding.{IsHeld, AreHeld}
use Rattle.ide_ssr_nesting.specs.Laws.{KeptExist}
use Rattle.ide_ssr_nesting.proofs.Above.{below_is_between, one_place_each}
use Rattle.ide_ssr_nesting.proofs.Arranged.{arranged}
use Rattle.ide_ssr_nesting.proofs.Over.{before_trans}
use Rattle.ide_ssr_nesting.proofs.OneKept.{compared}
use Rattle.ide_ssr_nesting.proofs.Nearest.{nearest_here, fits_held, fits_not, held_more}
use Rattle.ide_ssr_nesting.proofs.Keeping.{AreKeptSoFar, kept_starts, kept_ends, kept_match, kept_behind, kept_turns, all_match, kept_same}

-- ** What holds or doesn't.

lies_within : (inner outer : Option FileSpan) → Decided (LiesWithin inner outer)
lies_within inner outer = of_some (λ i. IsSomeAnd outer (LiesIn i)) (λ i. of_some (LiesIn i) (lies_in i) outer) inner

lies_under : (trees : List PlacedTree) (k m : FoundMatch) (n : ℕ) → n < length k.bindings → Decided (LiesUnder trees k m n)
lies_under trees k m n within =
    let at = stands_at k.bindings n within in
    likewise (lies_within (original_range trees m.node) (held_range trees k.node.tree at.0)) (λ lies. record { binding = at.0; is = at.1; within = lies })
    (λ under. subst (λ (b : Binding). LiesWithin (original_range trees m.node) (held_range trees k.node.tree b)) (same_Some under.binding at.0 (sym under.is ∙ at.1)) under.within)

module _ (trees : List PlacedTree) (grown : CallsAreEarlier trees) where
  is_over : (k m : FoundMatch) → IsNodeOf trees k.node → IsNodeOf trees m.node → Decided (IsOver trees k m)
  is_over k m k_in m_in =
      let between = below_is_between trees grown k.node m.node k_in m_in in
      either (likewise (both (less (place trees k.node) (place trees m.node)) (less (place trees m.node) (end_place trees k.node))) between.1 between.0)
      (both (likewise (cases_eq (place trees k.node) (place trees m.node)) (one_place_each trees grown k.node m.node k_in m_in) (ap (place trees))) (less k.rule m.rule))

  -- ** One match after another.

  module _ (kept : List FoundMatch) (holders : List (Option Holder)) (held : AreHeld trees kept holders) (m : FoundMatch) (match : IsMatch trees m)
      (behind : All (λ k. ComesBefore trees k m) kept) where
    abbrev IsOverAt : ℕ → Type 0
    IsOverAt n = (k : FoundMatch) × (slice_get kept n ≡ Some k) × IsOver trees k m

    over_at : (n : ℕ) → n < length kept → Decided (IsOverAt n)
    over_at n within =
        let at = stands_at kept n within in
        likewise (is_over at.0 m (all_at (IsMatch trees) kept n at.0 held.each at.1).node match.node) (λ over. (at.0, at.1, over))
        (λ is. subst (λ (k : FoundMatch). IsOver trees k m) (same_Some is.0 at.0 (sym is.1 ∙ at.1)) is.2)

    -- it lies in a placeholder of each one over it, so something holds it; or it doesn't
    considered : ((holder : Option Holder) × Fits trees kept m × IsHeld trees kept m holder) ⊎ (Fits trees kept m → ⊥)
    considered =
        elim (last_of IsOverAt (length kept) over_at (λ n low is. omega (arith, slice_get_within kept n is.0 is.1))) [
          | inr none ↦
              let outermost : IsHeld trees kept m None =
              λ k at over. (let place = place_in kept k at in none place.0 (k, place.1, over)) in
              inl (None, (λ k at over. absurd (outermost k at over)), outermost)
          | inl last ↦
              let p = last.0 in
              let k = last.1 in
              let near = nearest_here trees grown kept holders held m match behind p k.0 k.1 (λ n j more is over. last.2 n more (j, is, over)) k.2 in
              let by = near.nearest in
              elim (last_of (LiesUnder trees by m) (length by.bindings) (lies_under trees by m)
              (λ n low under. omega (arith, slice_get_within by.bindings n under.binding under.is))) [
                | inl under ↦
                    let fits = fits_held trees grown kept holders held m match behind p under.0 near under.1 in
                    inl (Some (record { place = p; binding = under.0 }), fits.0, fits.1)
                | inr none ↦ inr (fits_not trees grown kept holders held m match behind p near none)
              ]
        ]

  module _ (found : List FoundMatch) where
    abbrev AreAll : Type 0
    AreAll = (kept : List FoundMatch) × (holders : List (Option Holder)) × AreKept trees found kept × AreHeld trees kept holders

    gone_through : (rest kept : List FoundMatch) (holders : List (Option Holder)) → AreKeptSoFar trees found kept holders rest → AreAll
    gone_through [] kept holders so_far = (kept, holders, kept_ends trees grown found kept holders so_far, so_far.held)
    gone_through (x ∷ rest) kept holders so_far =
        let match = kept_match trees grown found kept holders x rest so_far in
        let behind = kept_behind trees grown found kept holders x rest so_far in
        elim (considered kept holders so_far.held x match behind) [
          | inl fits ↦
              gone_through rest (kept ++ x ∷ []) (holders ++ fits.0 ∷ [])
              (kept_turns trees grown found kept holders x rest so_far (kept ++ x ∷ []) (holders ++ fits.0 ∷ []) (inl (fits.1, refl))
              (held_more trees grown kept holders so_far.held x match behind fits.0 fits.1 fits.2))
          | inr other ↦
              gone_through rest kept holders (kept_turns trees grown found kept holders x rest so_far kept holders (inr (other, refl)) so_far.held)
        ]

-- ** In any order.

pub kept_exist : (w : Workspace) → IsBuilt w → KeptExist w
kept_exist w built found are =
    let ts = trees w in
    let in_order = arranged (ComesBefore ts) (Contains found) (before_trans ts)
    (λ k m k_at m_at. elim (compared ts built.grown k m (All-contains (IsMatch ts) found k are.each k_at).node (All-contains (IsMatch ts) found m are.each m_at).node) [
      | inl before ↦ inl before
      | inr (inl behind) ↦ inr (inl behind)
      | inr (inr same) ↦ inr (inr (are.one k m k_at m_at same.0 same.1))
    ])
    found (All-contains_itself found) in
    let sorted = in_order.1 in
    let all = gone_through ts built.grown in_order.0 in_order.0 [] []
    (kept_starts ts in_order.0 [] [] in_order.0 (all_match ts found in_order.0 are sorted.same) sorted.in_order refl refl refl) in (
      record { workspace = w; matches = all.0; holders = all.1 },
      refl,
      kept_same ts found in_order.0 all.0 sorted.same all.2,
      record { built = built; held = all.3 },
    )
