-- The nearest match over another one: the last one over it, to which the holders lead.
use Rattle.std.proofs.Common.{◌≡◌, ℕ, ◌+◌, ◌<◌, inl, inr, List, [], ◌∷◌, ◌++◌, length, get_or, slice_get, Option, Some, None, All, Contains, sym, ap, ◌∙◌, subst, arith, length-append}
use Rattle.std.specs.Prelude.{option_map}
use Rattle.std.specs.Option.{option_map_or}
use Rattle.std.proofs.lemmas.Bool.{cases_order}
use Rattle.std.proofs.lemmas.Option.{slice_get_within, get_or_from_slice_get, same_Some}
use Rattle.std.proofs.lemmas.List.Elements.{All-contains, All-push, Contains-push_cases}
use Rattle.std.proofs.lemmas.List.Quantifiers.{all_pairs_push}
use Rattle.ssr_base_trees.specs.Workspace.{PlacedTree}
use Rattle.ssr_base_trees.specs.Built.{CallsAreEarlier}
use Rattle.ide_ssr_bindings.specs.Found.{FoundMatch, IsMatch}
use Rattle.ide_ssr_nesting.specs.declared.holders.Holder.{Holder}
use Rattle.ide_ssr_nesting.specs.Kept.{IsOver, LiesUnder, Fits, ComesBefore}
use Rattle.ide_ssr_nesting.specs.Holding.{IsOutermost, IsNearest, IsHeld, AreHeld}
use Rattle.ide_ssr_nesting.specs.Private.Nearest.{IsNearestAt}
use Rattle.ssr_syntax_tree.proofs.Lists.{all_at, pairs_at, contains_at, place_in, pushed_at, slice_get-left}
use Rattle.ide_ssr_nesting.proofs.Over.{not_before_itself, not_over, not_over_itself, closed}
use Rattle.ide_ssr_nesting.proofs.Under.{under_outer}

-- the last of the matches over m, if there is one, has a place up to this one
abbrev pub IsPast : List PlacedTree → List FoundMatch → FoundMatch → Option ℕ → Type 0
IsPast trees kept m None = IsOutermost trees kept m
IsPast trees kept m (Some p) =
    (p < length kept) × ((n : ℕ) (k : FoundMatch) → p < n → slice_get kept n ≡ Some k → IsOver trees k m → ⊥)

module _ (trees : List PlacedTree) (grown : CallsAreEarlier trees) (kept : List FoundMatch) (holders : List (Option Holder)) (held : AreHeld trees kept holders)
    (m : FoundMatch) (match : IsMatch trees m) (behind : All (λ k. ComesBefore trees k m) kept) where
  before_at : (n : ℕ) (k : FoundMatch) → slice_get kept n ≡ Some k → ComesBefore trees k m
  before_at n k is = all_at (λ k. ComesBefore trees k m) kept n k behind is

  -- what is over m is over each match behind it in the list
  over_later : (i j : ℕ) (a b : FoundMatch) → i < j → slice_get kept i ≡ Some a → slice_get kept j ≡ Some b → IsOver trees a m → IsOver trees a b
  over_later i j a b less a_is b_is over =
      closed trees grown a b m (all_at (IsMatch trees) kept i a held.each a_is).node (all_at (IsMatch trees) kept j b held.each b_is).node match.node
      (pairs_at (ComesBefore trees) kept i j a b held.in_order less a_is b_is) (before_at j b b_is) over

  -- at a place behind which none is over m
  module _ (p : ℕ) (k : FoundMatch) (is : slice_get kept p ≡ Some k)
      (past : (n : ℕ) (j : FoundMatch) → p < n → slice_get kept n ≡ Some j → IsOver trees j m → ⊥) where
    pub nearest_here : IsOver trees k m → IsNearestAt trees kept m p
    nearest_here over = record {
      nearest = k;
      stands = is;
      is_nearest = record {
        over = over;
        others = λ j at other. (
            let place = place_in kept j at in
            elim (cases_order place.0 p) [
              | inl same ↦ inl (same_Some j k (sym place.1 ∙ ap (slice_get kept) same ∙ is))
              | inr (inl less) ↦ inr (over_later place.0 p j k less place.1 is other)
              | inr (inr more) ↦ absurd (past place.0 j more place.1 other)
            ]
            );
      };
    }

    -- what is over m is over k, where k isn't over m
    over_this : (IsOver trees k m → ⊥) → (n : ℕ) (j : FoundMatch) → slice_get kept n ≡ Some j → IsOver trees j m → (n < p) × IsOver trees j k
    over_this other n j at over =
        elim (cases_order n p) [
          | inl same ↦ absurd (other (subst (λ k. IsOver trees k m) (same_Some j k (sym at ∙ ap (slice_get kept) same ∙ is)) over))
          | inr (inl less) ↦ (less, over_later n p j k less at is over)
          | inr (inr more) ↦ absurd (past n j more at over)
        ]

    -- a match over k has an earlier place
    earlier_place : (q : ℕ) (j : FoundMatch) → slice_get kept q ≡ Some j → IsOver trees j k → q < p
    earlier_place q j at over =
        elim (cases_order q p) [
          | inl same ↦ absurd (not_over_itself trees grown k (subst (λ j. IsOver trees j k) (same_Some j k (sym at ∙ ap (slice_get kept) same ∙ is)) over))
          | inr (inl less) ↦ less
          | inr (inr more) ↦ absurd (not_over trees grown j k (pairs_at (ComesBefore trees) kept p q k j held.in_order more is at) over)
        ]

    pub past_next : (IsOver trees k m → ⊥) → (holder : Option Holder) → IsHeld trees kept k holder
        → (next : Option ℕ) → next ≡ option_map (λ (h : Holder). h.place) holder → IsPast trees kept m next
    past_next other None outermost next e =
        subst (IsPast trees kept m) (sym e)
        (λ j at over. let place = place_in kept j at in outermost j at (over_this other place.0 j place.1 over).1)
    past_next other (Some h) by next e =
        subst (IsPast trees kept m) (sym e) (
          slice_get_within kept h.place by.nearest by.stands,
          λ n j more at over. (
              let above = (over_this other n j at over).1 in
              elim (by.is_nearest.others j (contains_at kept n j at) above) [
                | inl same ↦ not_before_itself trees j
                    (subst (λ i. ComesBefore trees i j) (sym same) (pairs_at (ComesBefore trees) kept h.place n by.nearest j held.in_order more by.stands at))
                | inr over_it ↦ not_over trees grown j by.nearest (pairs_at (ComesBefore trees) kept h.place n by.nearest j held.in_order more by.stands at) over_it
              ]
              ),
        )

    pub next_smaller : (holder : Option Holder) → IsHeld trees kept k holder
        → (next : Option ℕ) → next ≡ option_map (λ (h : Holder). h.place) holder → option_map_or (λ q. 1 + q) next 0 < 1 + p
    next_smaller None outermost next e = rw e (omega arith)
    next_smaller (Some h) by next e =
        let less = earlier_place h.place by.nearest by.stands by.is_nearest.over in rw e (omega arith)

  -- ** Whether m fits.

  pub fits_held : (p i : ℕ) (near : IsNearestAt trees kept m p) → LiesUnder trees near.nearest m i
      → Fits trees kept m × IsHeld trees kept m (Some (record { place = p; binding = i }))
  fits_held p i near under =
      let k = near.nearest in
      let is_in : Contains kept k = contains_at kept p k near.stands in (
        (λ j at over. elim (near.is_nearest.others j at over) [
          | inl same ↦ (i, subst (λ k. LiesUnder trees k m i) (sym same) under)
          | inr above ↦ (
              let outer = held.fit k is_in j at above in
              (outer.0, under_outer trees j k m i outer.0 (all_at (IsMatch trees) kept p k held.each near.stands) under outer.1)
              )
        ]),
        record { nearest = k; stands = near.stands; is_nearest = near.is_nearest; under = under },
      )

  pub fits_not : (p : ℕ) (near : IsNearestAt trees kept m p) → ((i : ℕ) → LiesUnder trees near.nearest m i → ⊥) → Fits trees kept m → ⊥
  fits_not p near none fits =
      let lies = fits near.nearest (contains_at kept p near.nearest near.stands) near.is_nearest.over in none lies.0 lies.1

  -- ** One more.

  more_nearest : (k nearest x : FoundMatch) → (IsOver trees x k → ⊥) → IsNearest trees kept k nearest → IsNearest trees (kept ++ x ∷ []) k nearest
  more_nearest k nearest x other near = record {
    over = near.over;
    others = λ j at over. elim (Contains-push_cases kept x j at) [
      | inl there ↦ near.others j there over
      | inr new ↦ absurd (other (subst (λ j. IsOver trees j k) (sym new) over))
    ];
  }

  more_held : (k x : FoundMatch) (holder : Option Holder) → (IsOver trees x k → ⊥) → IsHeld trees kept k holder → IsHeld trees (kept ++ x ∷ []) k holder
  more_held k x None other outermost = λ j at over. elim (Contains-push_cases kept x j at) [
    | inl there ↦ outermost j there over
    | inr new ↦ other (subst (λ j. IsOver trees j k) (sym new) over)
  ]
  more_held k x (Some h) other by = record {
    nearest = by.nearest;
    stands = slice_get-left kept (x ∷ []) h.place by.nearest by.stands;
    is_nearest = more_nearest k by.nearest x other by.is_nearest;
    under = by.under;
  }

  pub fits_more : (k x : FoundMatch) → (IsOver trees x k → ⊥) → Fits trees kept k → Fits trees (kept ++ x ∷ []) k
  fits_more k x other fits j at over = elim (Contains-push_cases kept x j at) [
    | inl there ↦ fits j there over
    | inr new ↦ absurd (other (subst (λ j. IsOver trees j k) (sym new) over))
  ]

  -- m isn't over any of them
  under_none : (k : FoundMatch) → Contains kept k → IsOver trees m k → ⊥
  under_none k at over = not_over trees grown m k (All-contains (λ k. ComesBefore trees k m) kept k behind at) over

  pub held_more : (holder : Option Holder) → Fits trees kept m → IsHeld trees kept m holder → AreHeld trees (kept ++ m ∷ []) (holders ++ holder ∷ [])
  held_more holder fits is_held = record {
    each = All-push (IsMatch trees) kept m held.each match;
    in_order = all_pairs_push (ComesBefore trees) kept m held.in_order behind;
    fit = λ k at. elim (Contains-push_cases kept m k at) [
      | inl there ↦ fits_more k m (under_none k there) (held.fit k there)
      | inr new ↦ subst (Fits trees (kept ++ m ∷ [])) new (fits_more m m (not_over_itself trees grown m) fits)
    ];
    counted = omega (arith, length-append holders (holder ∷ []), length-append kept (m ∷ []), held.counted);
    held = λ n k h k_is h_is. elim (pushed_at kept m n k k_is) [
      | inl there ↦ elim (pushed_at holders holder n h h_is) [
        | inl beside ↦ more_held k m h (under_none k (contains_at kept n k there)) (held.held n k h there beside)
        | inr new ↦ absurd (let within = slice_get_within kept n k there in let counted = held.counted in omega (arith, new.0))
      ]
      | inr new ↦ elim (pushed_at holders holder n h h_is) [
        | inl beside ↦ absurd (let within = slice_get_within holders n h beside in let counted = held.counted in omega (arith, new.0))
        | inr also ↦
            subst (λ k. IsHeld trees (kept ++ m ∷ []) k h) new.1
            (subst (IsHeld trees (kept ++ m ∷ []) m) also.1 (more_held m m holder (not_over_itself trees grown m) is_held))
      ]
    ];
  }

-- the nearest match, as it is read
pub read_nearest : (trees : List PlacedTree) (kept : List FoundMatch) (m : FoundMatch) (p : ℕ) (k : FoundMatch) (near : IsNearestAt trees kept m p) → k ≡ get_or kept p k → k ≡ near.nearest
read_nearest trees kept m p k near read = read ∙ get_or_from_slice_get kept p near.nearest k near.stands

-- a match that is listed is kept
pub pushed : (trees : List PlacedTree) (grown : CallsAreEarlier trees) (kept : List FoundMatch) (holders : List (Option Holder)) → AreHeld trees kept holders
    → (m : FoundMatch) → IsMatch trees m → All (λ k. ComesBefore trees k m) kept
    → (holder : Option Holder) → Fits trees kept m × IsHeld trees kept m holder
    → (new : List FoundMatch) → new ≡ kept ++ m ∷ [] → (beside : List (Option Holder)) → beside ≡ holders ++ holder ∷ [] → AreHeld trees new beside
pushed trees grown kept holders held m match behind holder fits new new_is beside beside_is =
    rw (new_is, beside_is) (held_more trees grown kept holders held m match behind holder fits.0 fits.1)
