-- No more matches are listed than are kept, and no more are kept than are found.
use Rattle.std.proofs.Common.{◌≡◌, ◌≢◌, ℕ, zero, suc, ◌<◌, ◌≤◌, List, [], ◌∷◌, ◌++◌, inl, inr, length, get_or, None, Some, AllPairs, Contains, Result, Ok, Err, sym, ap, ◌∙◌, subst, arith, length-append}
use Rattle.std.specs.Prelude.{IfOk}
use Rattle.std.proofs.lemmas.List.Elements.{Contains-append_left, Contains-append_right, Contains-append_cases}
use Rattle.std.proofs.lemmas.Bool.{cases_lt}
use Rattle.std.proofs.lemmas.Option.{slice_get_within}
use Rattle.ssr_syntax_tree.proofs.Lists.{at_front, at_back, front_or_back, pairs_head, pairs_tail}
use Rattle.ssr_base_trees.specs.Workspace.{PlacedTree}
use Rattle.ide_ssr_resolved_rule.specs.Resolved.{ResolvedRule}
use Rattle.ide_ssr_bindings.specs.Found.{FoundMatch}
use Rattle.ide_ssr_nesting.specs.Holding.{Kept, IsKept}
use Rattle.ide_ssr_nesting.specs.Kept.{AreKept, ComesBefore}
use Rattle.ide_ssr_nesting.specs.Lists.{Listing, AreLists, listed}
use Rattle.ide_ssr_nesting.specs.Order.{place}
use Rattle.ide_ssr.specs.declared.matches.Match.{Match}
use Rattle.ide_ssr.specs.Nesting.{Show}
use Rattle.ide_ssr.specs.Nesting as nesting
use Rattle.ide_ssr.proofs.Holders.{of_holder, once}

-- ** Lists that have each element once.

-- what stands in front of an element, and behind it
around : {X : Type 0} (xs : List X) (x : X) → Contains xs x → (front : List X) × (back : List X) × (xs ≡ front ++ x ∷ back)
around [] x at = absurd (let less = at.1 in omega arith)
around (y ∷ ys) x at = elim (front_or_back y x ys at) [
  | inl same ↦ ([], ys, ap (λ z. z ∷ ys) same)
  | inr later ↦ let rest = around ys x later in (y ∷ rest.0, rest.1, ap (λ zs. y ∷ zs) rest.2)
]

-- they are no longer than a list that has all their elements
no_longer : {X : Type 0} (xs ys : List X) → AllPairs (λ x y. x ≢ y) xs → ((x : X) → Contains xs x → Contains ys x) → length xs ≤ length ys
no_longer [] ys once has = omega arith
no_longer {X} (x ∷ xs) ys once has =
    let at = around ys x (has x (at_front x xs)) in
    let others : (y : X) → Contains xs y → Contains (at.0 ++ at.1) y =
    λ y later. elim (Contains-append_cases at.0 (x ∷ at.1) y (subst (λ zs. Contains zs y) at.2 (has y (at_back x y xs later)))) [
      | inl before ↦ Contains-append_left at.0 at.1 y before
      | inr here ↦
          elim (front_or_back x y at.1 here) [
            | inl same ↦ absurd (pairs_head (λ x y. x ≢ y) x xs once later.0 y later.1 (same ∙ sym later.2))
            | inr behind ↦ Contains-append_right at.0 at.1 y behind
          ]
    ] in
    let rest = no_longer xs (at.0 ++ at.1) (pairs_tail (λ x y. x ≢ y) x xs once) others in
    omega (arith, rest, ap length at.2, length-append at.0 (x ∷ at.1), length-append at.0 at.1)

-- the numbers below another one
abbrev below : ℕ → List ℕ
below zero = []
below (suc n) = n ∷ below n

length_below : (n : ℕ) → length (below n) ≡ n
length_below zero = omega arith
length_below (suc n) = omega (arith, length_below n)

are_below : (n k : ℕ) → k < n → Contains (below n) k
are_below zero k less = absurd (omega arith)
are_below (suc n) k less =
    elim (cases_lt k n) [
      | inl lower ↦ at_back n k (below n) (are_below n k lower)
      | inr not_lower ↦ let same : n ≡ k = omega arith in subst (Contains (n ∷ below n)) same (at_front n (below n))
    ]

-- ** Kept, listed and shown.

pub few_kept : (trees : List PlacedTree) (found kept : List FoundMatch) → AreKept trees found kept → length kept ≤ length found
few_kept trees found kept are =
    no_longer kept found
    (λ i j d less within same. elim (are.in_order i j d less within) [
      | inl before ↦ omega (arith, ap (λ (m : FoundMatch). place trees m.node) same)
      | inr at ↦ let rule = at.1 in omega (arith, ap (λ (m : FoundMatch). m.rule) same)
    ])
    (λ m at. ((are.are m).0 at).0)

few_listed : (kept : Kept) (lists : Listing) → IsKept kept → AreLists kept lists → length (listed lists None) ≤ length kept.matches
few_listed kept lists known are =
    let count = length kept.matches in
    let fit = no_longer (listed lists None) (below count) (once kept lists are None)
    (λ n at. are_below count n (omega (arith, slice_get_within kept.holders n None (of_holder kept lists known are None n at), known.held.counted))) in
    omega (arith, fit, length_below count)

as_many : (rules : List ResolvedRule) (kept : Kept) (lists : Listing) (ns : List ℕ) (vs : List Match) → Show rules kept lists ns vs → length vs ≡ length ns
as_many rules kept lists _ _ nesting.none = omega arith
as_many rules kept lists _ _ (nesting.next n ns v vs first rest) = omega (arith, as_many rules kept lists ns vs rest)

-- the outermost matches are no more than are found
pub few_shown : {V E : Type 0} (items : V → List Match) (rules : List ResolvedRule) (found : List FoundMatch) (kept : Kept) (lists : Listing)
    → IsKept kept → AreLists kept lists → length kept.matches ≤ length found
    → (result : Result V E) → IfOk result (λ answer. Show rules kept lists (listed lists None) (items answer)) → IfOk result (λ answer. length (items answer) ≤ length found)
few_shown items rules found kept lists known are few (Ok answer) shown =
    omega (arith, as_many rules kept lists (listed lists None) (items answer) shown, few_listed kept lists known are, few)
few_shown items rules found kept lists known are few (Err error) shown = tt
