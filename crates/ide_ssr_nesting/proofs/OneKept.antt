-- One list of matches is the kept ones.
use Rattle.std.proofs.Common.{◌≡◌, ◌⊎◌, ◌↔◌, inl, inr, List, [], ◌∷◌, ◌++◌, AllPairs, Contains, refl, sym, ap, ◌∙◌, subst, arith, append_assoc}
use Rattle.std.proofs.lemmas.Bool.{cases_order}
use Rattle.std.proofs.lemmas.List.Elements.{All-contains, Contains-append_left, Contains-append_right, Contains-append_cases}
use Rattle.ssr_base_trees.specs.Workspace.{PlacedTree}
use Rattle.ssr_base_trees.specs.Built.{IsNodeOf, CallsAreEarlier}
use Rattle.ide_ssr_bindings.specs.Found.{FoundMatch, IsMatch, AreMatches}
use Rattle.ide_ssr_nesting.specs.Order.{place}
use Rattle.ide_ssr_nesting.specs.Kept.{IsOver, Fits, ComesBefore, AreKept}
use Rattle.ide_ssr_nesting.specs.Laws.{OneKept, LiesInOnePlaceholder}
use Rattle.ssr_syntax_tree.proofs.Lists.{at_front, front_or_back, pairs_head, pairs_right, pairs_across}
use Rattle.ide_ssr_nesting.proofs.Above.{one_place_each}
use Rattle.ide_ssr_nesting.proofs.Elements.{none_in}
use Rattle.ide_ssr_nesting.proofs.Over.{before_trans, not_before_itself, not_over, over_before}
use Rattle.ide_ssr_nesting.proofs.Under.{one_placeholder}

abbrev IsSame : FoundMatch → FoundMatch → Type 0
IsSame k m = (k.node ≡ m.node) × (k.rule ≡ m.rule)

module _ (trees : List PlacedTree) (grown : CallsAreEarlier trees) where
  pub compared : (k m : FoundMatch) → IsNodeOf trees k.node → IsNodeOf trees m.node → ComesBefore trees k m ⊎ (ComesBefore trees m k ⊎ IsSame k m)
  compared k m k_in m_in = elim (cases_order (place trees k.node) (place trees m.node)) [
    | inr (inl less) ↦ inl (inl less)
    | inr (inr more) ↦ inr (inl (inl more))
    | inl same ↦ (
        let node = one_place_each trees grown k.node m.node k_in m_in same in
        elim (cases_order k.rule m.rule) [
          | inl rule ↦ inr (inr (node, rule))
          | inr (inl less) ↦ inl (inr (node, less))
          | inr (inr more) ↦ inr (inl (inr (sym node, more)))
        ]
        )
  ]

  pub not_before_same : (k m : FoundMatch) → IsSame k m → ComesBefore trees k m → ⊥
  not_before_same k m same (inl less) = omega (arith, ap (place trees) same.0)
  not_before_same k m same (inr less) = let rule = same.1 in omega arith

  same_before : (k l x : FoundMatch) → IsSame k l → ComesBefore trees l x → ComesBefore trees k x
  same_before k l x same (inl less) = inl (omega (arith, ap (place trees) same.0))
  same_before k l x same (inr less) = let rule = same.1 in inr (same.0 ∙ less.0, omega arith)

  -- a kept match that no later one of the other list is over is in the other list
  there : (found again front ks ls : List FoundMatch) (k : FoundMatch) → ((m : FoundMatch) → Contains found m → Contains again m)
      → AreKept trees found (front ++ k ∷ ks) → AreKept trees again (front ++ ls) → ((x : FoundMatch) → Contains ls x → IsOver trees x k → ⊥) → Contains ls k
  there found again front ks ls k same one other none =
      let is_kept : Contains (front ++ k ∷ ks) k = Contains-append_right front (k ∷ ks) k (at_front k ks) in
      let told = (one.are k).0 is_kept in
      let fits : Fits trees (front ++ ls) k =
      λ x at over. elim (Contains-append_cases front ls x at) [
        | inl before ↦ told.1 x (Contains-append_left front (k ∷ ks) x before) over
        | inr later ↦ absurd (none x later over)
      ] in
      elim (Contains-append_cases front ls k ((other.are k).1 (same k told.0, fits))) [
        | inl before ↦ absurd (not_before_itself trees k (pairs_across (ComesBefore trees) front k ks k one.in_order before))
        | inr later ↦ later
      ]

  none_before : (k l : FoundMatch) (ls : List FoundMatch) → ComesBefore trees k l → AllPairs (ComesBefore trees) (l ∷ ls) → (x : FoundMatch) → Contains (l ∷ ls) x → ComesBefore trees k x
  none_before k l ls before pairs x at = elim (front_or_back l x ls at) [
    | inl here ↦ subst (ComesBefore trees k) here before
    | inr later ↦ before_trans trees k l x before (All-contains (ComesBefore trees l) ls x (pairs_head (ComesBefore trees) l ls pairs) later)
  ]

  -- the first of the rest isn't earlier than that of the other list
  not_earlier : (found again front ks ls : List FoundMatch) (k l : FoundMatch) → ((m : FoundMatch) → Contains found m → Contains again m)
      → AreKept trees found (front ++ k ∷ ks) → AreKept trees again (front ++ l ∷ ls) → ComesBefore trees k l → ⊥
  not_earlier found again front ks ls k l same one other before =
      let after = none_before k l ls before (pairs_right (ComesBefore trees) front (l ∷ ls) other.in_order) in
      let at = there found again front ks (l ∷ ls) k same one other (λ x at over. not_over trees grown x k (after x at) over) in
      not_before_itself trees k (after k at)

  first_same : (found again front ks ls : List FoundMatch) (k l : FoundMatch) → ((m : FoundMatch) → Contains found m → Contains again m)
      → AreKept trees found (front ++ k ∷ ks) → AreKept trees again (front ++ l ∷ ls) → IsSame k l → k ≡ l
  first_same found again front ks ls k l same one other is =
      let pairs = pairs_head (ComesBefore trees) l ls (pairs_right (ComesBefore trees) front (l ∷ ls) other.in_order) in
      let none : (x : FoundMatch) → Contains (l ∷ ls) x → IsOver trees x k → ⊥ =
      λ x at over. elim (front_or_back l x ls at) [
        | inl here ↦ not_before_same l k (sym is.0, sym is.1) (subst (λ x. ComesBefore trees x k) (sym here) (over_before trees grown x k over))
        | inr later ↦ not_over trees grown x k (same_before k l x is (All-contains (ComesBefore trees l) ls x pairs later)) over
      ] in
      elim (front_or_back l k ls (there found again front ks (l ∷ ls) k same one other none)) [
        | inl here ↦ sym here
        | inr later ↦ absurd (not_before_same l k (sym is.0, sym is.1) (All-contains (ComesBefore trees l) ls k pairs later))
      ]

  module _ (found again : List FoundMatch) (are : AreMatches trees found) (same : (m : FoundMatch) → Contains found m ↔ Contains again m) where
    node_in : (front ks : List FoundMatch) (k : FoundMatch) → AreKept trees found (front ++ k ∷ ks) → IsNodeOf trees k.node
    node_in front ks k one =
        let told = (one.are k).0 (Contains-append_right front (k ∷ ks) k (at_front k ks)) in
        (All-contains (IsMatch trees) found k are.each told.0).node

    node_again : (front ls : List FoundMatch) (l : FoundMatch) → AreKept trees again (front ++ l ∷ ls) → IsNodeOf trees l.node
    node_again front ls l other =
        let told = (other.are l).0 (Contains-append_right front (l ∷ ls) l (at_front l ls)) in
        (All-contains (IsMatch trees) found l are.each ((same l).1 told.0)).node

    rests : (front ks ls : List FoundMatch) → AreKept trees found (front ++ ks) → AreKept trees again (front ++ ls) → ks ≡ ls
    rests front [] [] one other = refl
    rests front [] (l ∷ ls) one other =
        absurd (none_in l (there again found front ls [] l (λ m. (same m).1) other one (λ x at. absurd (none_in x at))))
    rests front (k ∷ ks) [] one other =
        absurd (none_in k (there found again front ks [] k (λ m. (same m).0) one other (λ x at. absurd (none_in x at))))
    rests front (k ∷ ks) (l ∷ ls) one other =
        elim (compared k l (node_in front ks k one) (node_again front ls l other)) [
          | inl before ↦ absurd (not_earlier found again front ks ls k l (λ m. (same m).0) one other before)
          | inr (inl behind) ↦ absurd (not_earlier again found front ls ks l k (λ m. (same m).1) other one behind)
          | inr (inr is) ↦ (
              let first = first_same found again front ks ls k l (λ m. (same m).0) one other is in
              let next = subst (λ l. AreKept trees again (front ++ l ∷ ls)) (sym first) other in
              ap (λ l. l ∷ ks) first
              ∙ ap (λ ms. l ∷ ms)
              (rests (front ++ k ∷ []) ks ls
              (subst (AreKept trees found) (sym (append_assoc front (k ∷ []) ks)) one)
              (subst (AreKept trees again) (sym (append_assoc front (k ∷ []) ls)) next))
              )
        ]

  pub one_kept : OneKept trees
  one_kept found again kept other are same one two = rests found again are same [] kept other one two

  pub lies_in_one : LiesInOnePlaceholder trees
  lies_in_one found kept k m are is k_at m_at over =
      let told = (is.are m).0 m_at in
      let lies = told.1 k k_at over in
      let k_match = All-contains (IsMatch trees) found k are.each ((is.are k).0 k_at).0 in
      let m_match = All-contains (IsMatch trees) found m are.each told.0 in
      (lies.0, lies.1, (λ other under. one_placeholder trees k m other lies.0 k_match m_match under lies.1))
