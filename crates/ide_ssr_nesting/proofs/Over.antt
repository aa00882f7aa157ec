-- Matches over one another, and the order in which they come.
use Rattle.std.proofs.Common.{◌≡◌, ℕ, ◌↔◌, inl, inr, true, List, sym, ap, ◌∙◌, subst, arith}
use Rattle.std.specs.Prelude.{IsTrue, nat_lt}
use Rattle.std.proofs.lemmas.Bool.{ltb-true, lt-ltb}
use Rattle.ssr_base_trees.specs.declared.ids.NodeId.{NodeId}
use Rattle.ssr_base_trees.specs.Workspace.{PlacedTree, same_id}
use Rattle.ssr_base_trees.specs.Built.{IsNodeOf, CallsAreEarlier}
use Rattle.ssr_base_trees.specs.Laws.{IsBelow}
use Rattle.ssr_base_trees.proofs.Shared.{same_nodes}
use Rattle.ide_ssr_bindings.specs.Found.{FoundMatch}
use Rattle.ide_ssr_nesting.specs.Order.{place}
use Rattle.ide_ssr_nesting.specs.Kept.{IsOver, ComesBefore}
use Rattle.ide_ssr_nesting.proofs.Above.{below_over, below_is_between}
use Rattle.ide_ssr_nesting.proofs.Compared.{not_below_itself}

pub before_trans : (trees : List PlacedTree) (j k m : FoundMatch) → ComesBefore trees j k → ComesBefore trees k m → ComesBefore trees j m
before_trans trees j k m (inl x) (inl y) = inl (omega arith)
before_trans trees j k m (inl x) (inr y) = inl (omega (arith, ap (place trees) y.0))
before_trans trees j k m (inr x) (inl y) = inl (omega (arith, ap (place trees) x.0))
before_trans trees j k m (inr x) (inr y) = inr (x.0 ∙ y.0, omega arith)

pub not_before_itself : (trees : List PlacedTree) (k : FoundMatch) → ComesBefore trees k k → ⊥
not_before_itself trees k (inl x) = omega arith
not_before_itself trees k (inr x) = omega arith

pub one_way : (trees : List PlacedTree) (k m : FoundMatch) → ComesBefore trees k m → ComesBefore trees m k → ⊥
one_way trees k m x y = not_before_itself trees k (before_trans trees k m k x y)

module _ (trees : List PlacedTree) (grown : CallsAreEarlier trees) where
  pub over_before : (k m : FoundMatch) → IsOver trees k m → ComesBefore trees k m
  over_before k m (inl below) = inl (below_over trees grown k.node m.node below).before
  over_before k m (inr same) = inr same

  -- what comes behind a match isn't over it
  pub not_over : (k m : FoundMatch) → ComesBefore trees m k → IsOver trees k m → ⊥
  not_over k m behind over = one_way trees m k behind (over_before k m over)

  pub not_over_itself : (k : FoundMatch) → IsOver trees k k → ⊥
  not_over_itself k over = not_before_itself trees k (over_before k k over)

  -- what is over a match is over those that come between the two
  pub closed : (j k m : FoundMatch) → IsNodeOf trees j.node → IsNodeOf trees k.node → IsNodeOf trees m.node → ComesBefore trees j k → ComesBefore trees k m
      → IsOver trees j m → IsOver trees j k
  closed j k m j_in k_in m_in (inr x) y over = inr x
  closed j k m j_in k_in m_in (inl x) (inr y) (inl below) = inl (subst (λ n. IsBelow trees n j.node) (sym y.0) below)
  closed j k m j_in k_in m_in (inl x) (inl y) (inl below) =
      let between = (below_is_between trees grown j.node m.node j_in m_in).0 below in
      let within = between.1 in
      inl ((below_is_between trees grown j.node k.node j_in k_in).1 (x, omega arith))
  closed j k m j_in k_in m_in (inl x) (inl y) (inr same) = absurd (omega (arith, ap (place trees) same.0))
  closed j k m j_in k_in m_in (inl x) (inr y) (inr same) = absurd (omega (arith, ap (place trees) same.0, ap (place trees) y.0))

-- ** What the code tells.

pub over_same : (trees : List PlacedTree) (k m : FoundMatch) (a b : NodeId) (r q : ℕ) → CallsAreEarlier trees → a ≡ k.node → b ≡ m.node → true ≡ same_id a b → r ≡ k.rule → q ≡ m.rule
    → IsTrue (nat_lt r q) ↔ IsOver trees k m
over_same trees k m a b r q grown at_k at_m is rule_k rule_m =
    let node : k.node ≡ m.node = sym at_k ∙ same_nodes a b (sym is) ∙ at_m in (
      (λ test. inr (node, let less = ltb-true r q test in omega arith)),
      (λ over. elim over [
        | inl below ↦ absurd (not_below_itself trees k.node grown (subst (λ x. IsBelow trees x k.node) (sym node) below))
        | inr same ↦ lt-ltb r q (let less = same.1 in omega arith)
      ]),
    )
