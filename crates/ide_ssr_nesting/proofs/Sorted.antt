-- Matches sorted, and once each.
use Rattle.std.proofs.Common.{◌≡◌, ℕ, suc, ◌+◌, ◌<◌, ◌==◌, ◌&&◌, ◌⊎◌, ◌↔◌, inl, inr, Bool, true, false, cond, List, [], ◌∷◌, length, get_or, All, AllPairs, Contains, refl, sym, ap, ◌∙◌, subst, arith, eqb-true, eq-eqb}
use Rattle.std.specs.List.{dedup, dedup_from}
use Rattle.std.specs.List.Sorted.{IsSortedBy, IsPermutation}
use Rattle.std.proofs.lemmas.Bool.{cases_order, and_parts, and_from, false≢true}
use Rattle.std.proofs.lemmas.List.Elements.{All-cons, All-nil, All-head, All-tail, All-contains_itself}
use Rattle.std.proofs.lemmas.List.Sorted.{All-permutation, Contains-permutation, IsPermutation-sym}
use Rattle.std.proofs.lemmas.List.Kept.{AllPairs-cons, Contains-from_dedup}
use Rattle.ssr_base_trees.specs.declared.ids.NodeId.{NodeId}
use Rattle.ssr_base_trees.specs.Workspace.{PlacedTree}
use Rattle.ssr_base_trees.specs.Built.{IsNodeOf, CallsAreEarlier}
use Rattle.ide_ssr_bindings.specs.Found.{FoundMatch, IsMatch, AreMatches}
use Rattle.ide_ssr_nesting.specs.Order.{place}
use Rattle.ide_ssr_nesting.specs.Kept.{ComesBefore}
use Rattle.ide_ssr_nesting.specs.Private.Sorting.{is_ahead, is_same}
use Rattle.ssr_syntax_tree.proofs.Lists.{at_front, at_back, front_or_back}
use Rattle.ssr_base_trees.proofs.Shared.{same_nodes}
use Rattle.ide_ssr_nesting.proofs.Laid.{laid}
use Rattle.ide_ssr_nesting.proofs.Over.{before_trans}
use Rattle.ide_ssr_nesting.proofs.Ahead.{before_ahead}

-- ** Each once.

pub same_parts : (k m : FoundMatch) → is_same k m ≡ true → (k.node ≡ m.node) × (k.rule ≡ m.rule)
same_parts k m is =
    let parts = and_parts ((k.node.tree == m.node.tree) && (k.node.node.0 == m.node.node.0)) (k.rule == m.rule) is in
    (same_nodes k.node m.node parts.0, eqb-true k.rule m.rule parts.1)

parts_same : (k m : FoundMatch) → k.node ≡ m.node → k.rule ≡ m.rule → is_same k m ≡ true
parts_same k m node rule =
    and_from ((k.node.tree == m.node.tree) && (k.node.node.0 == m.node.node.0)) (k.rule == m.rule)
    (and_from (k.node.tree == m.node.tree) (k.node.node.0 == m.node.node.0)
    (eq-eqb k.node.tree m.node.tree (ap (λ (x : NodeId). x.tree) node)) (eq-eqb k.node.node.0 m.node.node.0 (ap (λ (x : NodeId). x.node.0) node)))
    (eq-eqb k.rule m.rule rule)

-- the test of repeated ones, of a match and the last one that stays
abbrev pub repeats : FoundMatch → FoundMatch → Bool
repeats m k = is_same k m

-- where those of one rule at one node are the same, each is still there
stays : (all : List FoundMatch) → ((k m : FoundMatch) → Contains all k → Contains all m → k.node ≡ m.node → k.rule ≡ m.rule → k ≡ m)
    → (k : FoundMatch) (xs : List FoundMatch) → All (Contains all) (k ∷ xs) → (m : FoundMatch) → Contains (k ∷ xs) m → Contains (dedup_from repeats k xs) m
stays all one k [] in_all m at = at
stays all one k (x ∷ xs) in_all m at =
    by (is_same k x) refl (λ here. stays all one k xs (All-cons (Contains all) k xs (All-head (Contains all) k (x ∷ xs) in_all) rest) m here)
    (λ later. stays all one x xs (All-tail (Contains all) k (x ∷ xs) in_all) m later)
  where
    rest : All (Contains all) xs
    rest = All-tail (Contains all) x xs (All-tail (Contains all) k (x ∷ xs) in_all)

    by : (b : Bool) → is_same k x ≡ b → (Contains (k ∷ xs) m → Contains (dedup_from repeats k xs) m) → (Contains (x ∷ xs) m → Contains (dedup_from repeats x xs) m)
        → Contains (cond b (dedup_from repeats k xs) (k ∷ dedup_from repeats x xs)) m
    by true is from_k from_x =
        let parts = same_parts k x is in
        let k_in = All-head (Contains all) k (x ∷ xs) in_all in
        let x_in = All-head (Contains all) x xs (All-tail (Contains all) k (x ∷ xs) in_all) in
        let same = one k x k_in x_in parts.0 parts.1 in
        from_k (elim (front_or_back k m (x ∷ xs) at) [
          | inl here ↦ subst (Contains (k ∷ xs)) here (at_front k xs)
          | inr later ↦ elim (front_or_back x m xs later) [
            | inl here ↦ subst (Contains (k ∷ xs)) (same ∙ here) (at_front k xs)
            | inr last ↦ at_back k m xs last
          ]
        ])
    by false is from_k from_x = elim (front_or_back k m (x ∷ xs) at) [
      | inl here ↦ subst (Contains (k ∷ dedup_from repeats x xs)) here (at_front k (dedup_from repeats x xs))
      | inr later ↦ at_back k m (dedup_from repeats x xs) (from_x later)
    ]

pub all_stay : (all xs : List FoundMatch) → ((k m : FoundMatch) → Contains all k → Contains all m → k.node ≡ m.node → k.rule ≡ m.rule → k ≡ m)
    → All (Contains all) xs → (m : FoundMatch) → Contains xs m → Contains (dedup repeats xs) m
all_stay all [] one in_all m at = at
all_stay all (x ∷ xs) one in_all m at = stays all one x xs in_all m at

-- ** In order.

module _ (trees : List PlacedTree) where
  -- one that isn't behind another one comes before it, or is of its rule at its node
  abbrev IsNotBehind : FoundMatch → FoundMatch → Type 0
  IsNotBehind k m = ComesBefore trees k m ⊎ ((k.node ≡ m.node) × (k.rule ≡ m.rule))

  -- one behind another from a match on: each comes before the next one, or isn't behind it
  abbrev Rises : FoundMatch → List FoundMatch → Type 0
  Rises k [] = Unit {0}
  Rises k (x ∷ xs) = ComesBefore trees k x × Rises x xs

  abbrev Ascends : FoundMatch → List FoundMatch → Type 0
  Ascends k [] = Unit {0}
  Ascends k (x ∷ xs) = IsNotBehind k x × Ascends x xs

  -- what the order says of a match, it says of one of its rule at its node
  from_same : (k x y : FoundMatch) → k.node ≡ x.node → k.rule ≡ x.rule → ComesBefore trees x y → ComesBefore trees k y
  from_same k x y node rule (inl less) = inl (omega (arith, ap (place trees) node))
  from_same k x y node rule (inr same) = inr (node ∙ same.0, omega arith)

  ascends_from : (k x : FoundMatch) (xs : List FoundMatch) → k.node ≡ x.node → k.rule ≡ x.rule → Ascends x xs → Ascends k xs
  ascends_from k x [] node rule up = tt
  ascends_from k x (y ∷ xs) node rule (inl before, rest) = (inl (from_same k x y node rule before), rest)
  ascends_from k x (y ∷ xs) node rule (inr same, rest) = (inr (node ∙ same.0, rule ∙ same.1), rest)

  rises_once : (k : FoundMatch) (xs : List FoundMatch) → Ascends k xs → (ys : List FoundMatch) × (dedup_from repeats k xs ≡ k ∷ ys) × Rises k ys
  rises_once k [] up = ([], refl, tt)
  rises_once k (x ∷ xs) up = by (is_same k x) refl (rises_once x xs up.1) (λ same rule. rises_once k xs (ascends_from k x xs same rule up.1))
    where
      by : (b : Bool) → is_same k x ≡ b → (ys : List FoundMatch) × (dedup_from repeats x xs ≡ x ∷ ys) × Rises x ys
          → (k.node ≡ x.node → k.rule ≡ x.rule → (ys : List FoundMatch) × (dedup_from repeats k xs ≡ k ∷ ys) × Rises k ys)
          → (ys : List FoundMatch) × (cond b (dedup_from repeats k xs) (k ∷ dedup_from repeats x xs) ≡ k ∷ ys) × Rises k ys
      by true is later here = let parts = same_parts k x is in here parts.0 parts.1
      by false is later here =
          (x ∷ later.0, ap (λ zs. k ∷ zs) later.1, (before up.0, later.2))
        where
          before : IsNotBehind k x → ComesBefore trees k x
          before (inl less) = less
          before (inr same) = absurd (false≢true (sym is ∙ parts_same k x same.0 same.1))

  rises_before : (j k : FoundMatch) (xs : List FoundMatch) → ComesBefore trees j k → Rises k xs → All (ComesBefore trees j) (k ∷ xs)
  rises_before j k [] before up = All-cons (ComesBefore trees j) k [] before (All-nil (ComesBefore trees j))
  rises_before j k (x ∷ xs) before up =
      All-cons (ComesBefore trees j) k (x ∷ xs) before (rises_before j x xs (before_trans trees j k x before up.0) up.1)

  rises_pairs : (k : FoundMatch) (xs : List FoundMatch) → Rises k xs → AllPairs (ComesBefore trees) (k ∷ xs)
  rises_pairs k [] up = AllPairs-cons (ComesBefore trees) k [] (All-nil (ComesBefore trees k)) (λ i j d less within. absurd (omega arith))
  rises_pairs k (x ∷ xs) up = AllPairs-cons (ComesBefore trees) k (x ∷ xs) (rises_before k x xs up.0 up.1) (rises_pairs x xs up.1)

  -- from neighbours
  neighbours_rise : (k : FoundMatch) (xs : List FoundMatch)
      → ((n : ℕ) (d : FoundMatch) → suc n < length (k ∷ xs) → ComesBefore trees (get_or (k ∷ xs) n d) (get_or (k ∷ xs) (suc n) d)) → Rises k xs
  neighbours_rise k [] near = tt
  neighbours_rise k (x ∷ xs) near = (near 0 k (omega arith), neighbours_rise x xs (λ n d lt. near (suc n) d (omega arith)))

  pub neighbours_in_order : (xs : List FoundMatch)
      → ((n : ℕ) (d : FoundMatch) → suc n < length xs → ComesBefore trees (get_or xs n d) (get_or xs (suc n) d)) → AllPairs (ComesBefore trees) xs
  neighbours_in_order [] near = λ i j d less within. absurd (omega arith)
  neighbours_in_order (k ∷ xs) near = rises_pairs k xs (neighbours_rise k xs near)

  module _ (grown : CallsAreEarlier trees) where
    not_behind : (k m : FoundMatch) → IsNodeOf trees k.node → IsNodeOf trees m.node → is_ahead trees m k ≡ false → IsNotBehind k m
    not_behind k m k_in m_in other = elim (cases_order (place trees k.node) (place trees m.node)) [
      | inr (inl less) ↦ inl (inl less)
      | inr (inr more) ↦ absurd (false≢true (sym other ∙ before_ahead trees grown m k m_in k_in (inl more)))
      | inl same ↦ (
          let node = (laid trees grown).one k.node m.node k_in m_in same in
          elim (cases_order k.rule m.rule) [
            | inl rule ↦ inr (node, rule)
            | inr (inl less) ↦ inl (inr (node, less))
            | inr (inr more) ↦ absurd (false≢true (sym other ∙ before_ahead trees grown m k m_in k_in (inr (sym node, more))))
          ]
          )
    ]

    sorted_ascends : (k : FoundMatch) (xs : List FoundMatch) → All (IsMatch trees) (k ∷ xs) → IsSortedBy (is_ahead trees) (k ∷ xs) → Ascends k xs
    sorted_ascends k [] each up = tt
    sorted_ascends k (x ∷ xs) each up =
        let later = All-tail (IsMatch trees) k (x ∷ xs) each in (
          not_behind k x (All-head (IsMatch trees) k (x ∷ xs) each).node (All-head (IsMatch trees) x xs later).node (up 0 k (omega arith) (omega arith)),
          sorted_ascends x xs later (λ n d low lt.
              subst (λ i. is_ahead trees (get_or (k ∷ x ∷ xs) i d) (get_or (x ∷ xs) n d) ≡ false)
              (let next : suc n + 1 ≡ suc (n + 1) = omega arith in next)
              (up (suc n) d (omega arith) (omega arith))),
        )

    sorted_in_order : (xs : List FoundMatch) → All (IsMatch trees) xs → IsSortedBy (is_ahead trees) xs → AllPairs (ComesBefore trees) (dedup repeats xs)
    sorted_in_order [] each up = λ i j d less within. absurd (omega arith)
    sorted_in_order (k ∷ xs) each up =
        let once = rises_once k xs (sorted_ascends k xs each up) in
        subst (AllPairs (ComesBefore trees)) (sym once.1) (rises_pairs k once.0 once.2)

    -- what a sort leaves, each once
    pub sorted_once : (found sorted : List FoundMatch) → AreMatches trees found → IsPermutation found sorted → IsSortedBy (is_ahead trees) sorted
        → AllPairs (ComesBefore trees) (dedup repeats sorted) × ((m : FoundMatch) → Contains (dedup repeats sorted) m ↔ Contains found m)
    sorted_once found sorted are moved up =
        let back = IsPermutation-sym found sorted moved in (
          sorted_in_order sorted (All-permutation (IsMatch trees) found sorted moved are.each) up,
          (λ m. (
            (λ at. Contains-permutation sorted found m back (Contains-from_dedup repeats sorted m at)),
            (λ at. all_stay found sorted are.one (All-permutation (Contains found) found sorted moved (All-contains_itself found)) m
                (Contains-permutation found sorted m moved at)),
          )),
        )
