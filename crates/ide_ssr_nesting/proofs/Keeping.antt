-- The loop over the matches that are found, in order.
use Rattle.std.proofs.Common.{◌≡◌, ◌↔◌, inl, inr, List, [], ◌∷◌, ◌++◌, length, get_or, All, AllPairs, Contains, Option, refl, sym, ◌∙◌, subst, arith, append_assoc, append-nil}
use Rattle.std.proofs.lemmas.List.Elements.{All-nil, All-head, All-tail, All-contains, All-push, Contains-get_or, Contains-append_left, Contains-push, Contains-push_cases}
use Rattle.ssr_base_trees.specs.Workspace.{PlacedTree}
use Rattle.ssr_base_trees.specs.Built.{CallsAreEarlier}
use Rattle.ide_ssr_bindings.specs.Found.{FoundMatch, IsMatch, AreMatches}
use Rattle.ide_ssr_nesting.specs.declared.holders.Holder.{Holder}
use Rattle.ide_ssr_nesting.specs.Kept.{IsOver, Fits, ComesBefore, AreKept}
use Rattle.ide_ssr_nesting.specs.Holding.{AreHeld}
use Rattle.ide_ssr_nesting.specs.Private.Nearest.{IsKeptIfFits}
use Rattle.ssr_syntax_tree.proofs.Lists.{pairs_head, pairs_tail}
use Rattle.ide_ssr_nesting.proofs.Elements.{none_in}
use Rattle.ide_ssr_nesting.proofs.Over.{not_over, not_over_itself}

-- the kept ones of those that came, where `rest` is still to come
pub record AreKeptSoFar (trees : List PlacedTree) (found kept : List FoundMatch) (holders : List (Option Holder)) (rest : List FoundMatch) : Type 0 where
  pub front : List FoundMatch
  pub split : front ++ rest ≡ found
  pub held : AreHeld trees kept holders
  pub are : (m : FoundMatch) → Contains kept m ↔ (Contains front m × Fits trees kept m)
  pub before : All (λ m. All (ComesBefore trees m) rest) front
  pub in_order : AllPairs (ComesBefore trees) rest
  pub each : All (IsMatch trees) rest

none_held : (trees : List PlacedTree) → AreHeld trees [] []
none_held trees = record {
  each = All-nil (IsMatch trees);
  in_order = λ i j d less within. absurd (omega arith);
  fit = λ m at. absurd (none_in m at);
  counted = refl;
  held = λ n m holder is. cc;
}

pub kept_starts : (trees : List PlacedTree) (found kept : List FoundMatch) (holders : List (Option Holder)) (rest : List FoundMatch) → All (IsMatch trees) found → AllPairs (ComesBefore trees) found
    → kept ≡ [] → holders ≡ [] → rest ≡ found → AreKeptSoFar trees found kept holders rest
kept_starts trees found kept holders rest each in_order none beside all =
    rw (none, beside, all)
    (record {
      front = [];
      split = refl;
      held = none_held trees;
      are = λ m. ((λ at. absurd (none_in m at)), (λ at. absurd (none_in m at.0)));
      before = All-nil (λ m. All (ComesBefore trees m) found);
      in_order = in_order;
      each = each;
    })

module _ (trees : List PlacedTree) (grown : CallsAreEarlier trees) (found kept : List FoundMatch) (holders : List (Option Holder)) where
  pub kept_ends : AreKeptSoFar trees found kept holders [] → AreKept trees found kept
  kept_ends so_far =
      let all : so_far.front ≡ found = sym (append-nil so_far.front) ∙ so_far.split in
      record {
        in_order = so_far.held.in_order;
        are = subst (λ front. (m : FoundMatch) → Contains kept m ↔ (Contains front m × Fits trees kept m)) all so_far.are;
      }

  module _ (x : FoundMatch) (more : List FoundMatch) (so_far : AreKeptSoFar trees found kept holders (x ∷ more)) where
    front_before : (m : FoundMatch) → Contains so_far.front m → ComesBefore trees m x
    front_before m at = All-head (ComesBefore trees m) x more (All-contains (λ m. All (ComesBefore trees m) (x ∷ more)) so_far.front m so_far.before at)

    pub kept_match : IsMatch trees x
    kept_match = All-head (IsMatch trees) x more so_far.each

    pub kept_behind : All (λ k. ComesBefore trees k x) kept
    kept_behind n d lt =
        let at = Contains-get_or kept n d lt in front_before (get_or kept n d) ((so_far.are (get_or kept n d)).0 at).0

    next_before : All (λ m. All (ComesBefore trees m) more) (so_far.front ++ x ∷ [])
    next_before =
        All-push (λ m. All (ComesBefore trees m) more) so_far.front x
        (λ n d lt. All-tail (ComesBefore trees (get_or so_far.front n d)) x more (so_far.before n d lt))
        (pairs_head (ComesBefore trees) x more so_far.in_order)

    -- what comes later isn't over those that came
    not_over_front : (m : FoundMatch) → Contains (so_far.front ++ x ∷ []) m → IsOver trees x m → ⊥
    not_over_front m at over = elim (Contains-push_cases so_far.front x m at) [
      | inl there ↦ not_over trees grown x m (front_before m there) over
      | inr new ↦ not_over_itself trees grown x (subst (IsOver trees x) (sym new) over)
    ]

    now_kept : Fits trees kept x → (m : FoundMatch) → Contains (kept ++ x ∷ []) m ↔ (Contains (so_far.front ++ x ∷ []) m × Fits trees (kept ++ x ∷ []) m)
    now_kept fits m = (
      (λ at. elim (Contains-push_cases kept x m at) [
        | inl there ↦ (
            let parts = (so_far.are m).0 there in
            let before = Contains-append_left so_far.front (x ∷ []) m parts.0 in
            (before, larger m (not_over_front m before) parts.1)
            )
        | inr new ↦ (
          subst (Contains (so_far.front ++ x ∷ [])) new (Contains-push so_far.front x),
          subst (Fits trees (kept ++ x ∷ [])) new (larger x (not_over_itself trees grown x) fits),
        )
      ]),
      (λ at. elim (Contains-push_cases so_far.front x m at.0) [
        | inl there ↦ Contains-append_left kept (x ∷ []) m ((so_far.are m).1 (there, smaller m at.1))
        | inr new ↦ subst (Contains (kept ++ x ∷ [])) new (Contains-push kept x)
      ]),
    )
      where
        larger : (m : FoundMatch) → (IsOver trees x m → ⊥) → Fits trees kept m → Fits trees (kept ++ x ∷ []) m
        larger m other fits k at over = elim (Contains-push_cases kept x k at) [
          | inl there ↦ fits k there over
          | inr new ↦ absurd (other (subst (λ k. IsOver trees k m) (sym new) over))
        ]

        smaller : (m : FoundMatch) → Fits trees (kept ++ x ∷ []) m → Fits trees kept m
        smaller m fits k at over = fits k (Contains-append_left kept (x ∷ []) k at) over

    not_kept : (Fits trees kept x → ⊥) → (m : FoundMatch) → Contains kept m ↔ (Contains (so_far.front ++ x ∷ []) m × Fits trees kept m)
    not_kept other m = (
      (λ at. let parts = (so_far.are m).0 at in (Contains-append_left so_far.front (x ∷ []) m parts.0, parts.1)),
      (λ at. elim (Contains-push_cases so_far.front x m at.0) [
        | inl there ↦ (so_far.are m).1 (there, at.1)
        | inr new ↦ absurd (other (subst (Fits trees kept) (sym new) at.1))
      ]),
    )

    pub kept_turns : (new : List FoundMatch) (beside : List (Option Holder)) → IsKeptIfFits trees kept x new → AreHeld trees new beside → AreKeptSoFar trees found new beside more
    kept_turns new beside told held = record {
      front = so_far.front ++ x ∷ [];
      split = append_assoc so_far.front (x ∷ []) more ∙ so_far.split;
      held = held;
      are = elim told [
        | inl taken ↦ subst (λ ks. (m : FoundMatch) → Contains ks m ↔ (Contains (so_far.front ++ x ∷ []) m × Fits trees ks m)) (sym taken.1) (now_kept taken.0)
        | inr passed ↦ subst (λ ks. (m : FoundMatch) → Contains ks m ↔ (Contains (so_far.front ++ x ∷ []) m × Fits trees ks m)) (sym passed.1) (not_kept passed.0)
      ];
      before = next_before;
      in_order = pairs_tail (ComesBefore trees) x more so_far.in_order;
      each = All-tail (IsMatch trees) x more so_far.each;
    }

-- the same of what is read of the rest
module _ (trees : List PlacedTree) (grown : CallsAreEarlier trees) (found kept : List FoundMatch) (holders : List (Option Holder)) (rest : List FoundMatch)
    (so_far : AreKeptSoFar trees found kept holders rest) where
  module _ (x : FoundMatch) (more : List FoundMatch) (is : rest ≡ x ∷ more) where
    next_so_far : AreKeptSoFar trees found kept holders (x ∷ more)
    next_so_far = subst (AreKeptSoFar trees found kept holders) is so_far

    pub rest_behind : All (λ k. ComesBefore trees k x) kept
    rest_behind = kept_behind trees grown found kept holders x more next_so_far

    pub rest_turns : (new : List FoundMatch) → IsKeptIfFits trees kept x new → (beside : List (Option Holder)) → AreHeld trees new beside → AreKeptSoFar trees found new beside more
    rest_turns new told beside held = kept_turns trees grown found kept holders x more next_so_far new beside told held

  pub rest_ends : length rest ≡ 0 → AreKept trees found kept
  rest_ends none = kept_ends trees grown found kept holders (subst (AreKeptSoFar trees found kept holders) (empty rest none) so_far)
    where
      empty : (xs : List FoundMatch) → length xs ≡ 0 → xs ≡ []
      empty [] none = refl
      empty (x ∷ xs) none = absurd (omega arith)

-- ** Matches with the same members.

pub all_match : (trees : List PlacedTree) (found sorted : List FoundMatch) → AreMatches trees found → ((m : FoundMatch) → Contains sorted m ↔ Contains found m) → All (IsMatch trees) sorted
all_match trees found sorted are same n d lt =
    All-contains (IsMatch trees) found (get_or sorted n d) are.each ((same (get_or sorted n d)).0 (Contains-get_or sorted n d lt))

pub kept_same : (trees : List PlacedTree) (found sorted kept : List FoundMatch) → ((m : FoundMatch) → Contains sorted m ↔ Contains found m) → AreKept trees sorted kept → AreKept trees found kept
kept_same trees found sorted kept same is = record {
  in_order = is.in_order;
  are = λ m. (
    (λ at. let told = (is.are m).0 at in ((same m).0 told.0, told.1)),
    (λ at. (is.are m).1 ((same m).1 at.0, at.1)),
  );
}
