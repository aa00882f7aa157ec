-- What stands above a node of a workspace: nodes of its tree, or what stands above the tree's root.
use Rattle.std.proofs.Common.{◌≡◌, ℕ, zero, suc, ◌<◌, ◌≤◌, ◌==◌, List, Option, Some, None, refl, sym, ap, ◌∙◌, subst, inl, inr, ◌⊎◌, arith, ne_eqb}
use Rattle.std.proofs.lemmas.Bool.{cases_eq, cond-false}
use Rattle.std.proofs.lemmas.Option.{none-some, same_Some}
use Rattle.std.specs.Option.{option_and_then}
use Rattle.ssr_syntax_tree.specs.Syntax.{Syntax}
use Rattle.ssr_syntax_tree.specs.Places.{HasNode, node_of}
use Rattle.ssr_base_trees.specs.declared.ids.NodeId.{NodeId}
use Rattle.ssr_base_trees.specs.Workspace.{PlacedTree, node_id, above_in, above}
use Rattle.ssr_base_trees.specs.Laws.{climbed, IsBelow}
use Rattle.ssr_base_trees.proofs.Shared.{told_is, climbed_next}
use Rattle.ide_ssr_bindings.specs.Found.{IsAtOrBelow}
use Rattle.ide_ssr_bindings.proofs.Shared.{IsTree}
use Rattle.ssr_syntax_tree.proofs.Shared.{IsOver, inside, below_root}

pub then_some : {A B : Type 0} (f : A → Option B) (o : Option A) (y : B) → option_and_then f o ≡ Some y → (x : A) × (o ≡ Some x) × (f x ≡ Some y)
then_some f None y is = absurd (none-some y is)
then_some f (Some x) y is = (x, refl, is)

-- ** One step up.

pub above_inner : (ts : List PlacedTree) (t n : ℕ) (s : Syntax) → IsTree ts t s → HasNode s n → 0 < n → above ts (node_id t n) ≡ Some (node_id t (node_of s n).parent)
above_inner ts t n s at has inner =
    let had : HasNode at.tree.syntax n = subst (λ s. HasNode s n) (sym at.same) has in
    told_is (above_in (node_id t n)) ts (node_id t n) at.tree at.is had
    ∙ cond-false (n == 0) at.tree.call (Some (node_id t (node_of at.tree.syntax n).parent)) (ne_eqb n 0 (λ e. omega arith))
    ∙ ap (λ s. Some (node_id t (node_of s n).parent)) at.same

-- ** Further up.

pub below_up : (ts : List PlacedTree) (x y a : NodeId) → above ts x ≡ Some y → IsBelow ts x a → IsAtOrBelow ts y a
below_up ts x y a up below =
    let first = then_some (climbed ts below.0) (above ts x) a below.1 in
    from below.0 (subst (λ y. climbed ts below.0 y ≡ Some a) (same_Some first.0 y (sym first.1 ∙ up)) first.2)
  where
    from : (n : ℕ) → climbed ts n y ≡ Some a → IsAtOrBelow ts y a
    from zero is = inl (same_Some y a is)
    from (suc n) is = inr (n, is)

pub up_below : (ts : List PlacedTree) (x y a : NodeId) → above ts x ≡ Some y → IsAtOrBelow ts y a → IsBelow ts x a
up_below ts x y a up (inl same) = (0, climbed_next ts 0 x y up ∙ ap Some same)
up_below ts x y a up (inr below) = (suc below.0, climbed_next ts (suc below.0) x y up ∙ below.1)

-- ** In a tree, by numbers.

module _ (ts : List PlacedTree) (t : ℕ) (s : Syntax) (at : IsTree ts t s) where
  abbrev IsAbove : ℕ → NodeId → Type 0
  IsAbove n a = ((a.tree ≡ t) × IsOver s a.node.0 n) ⊎ IsBelow ts (node_id t 0) a

  split_to : (bound n : ℕ) → n ≤ bound → HasNode s n → (a : NodeId) → IsBelow ts (node_id t n) a → IsAbove n a
  split_to bound zero low has a below = inr below
  split_to zero (suc n) low has a below = absurd (omega arith)
  split_to (suc bound) (suc n) low has a below =
      let known = inside s 0 (suc n) (omega arith) (below_root s (suc n) has (omega arith)) in
      let p = (node_of s (suc n)).parent in
      let before = known.parent in
      let here : HasNode s p = omega (arith, before.0) in
      elim (below_up ts (node_id t (suc n)) (node_id t p) a (above_inner ts t (suc n) s at has (omega arith)) below) [
        | inl same ↦
            inl (ap (λ (x : NodeId). x.tree) (sym same), subst (λ (x : NodeId). IsOver s x.node.0 (suc n)) same before)
        | inr further ↦
            elim (split_to bound p (omega (arith, before.0)) here a further) [
              | inl over ↦
                  let had : HasNode s a.node.0 = omega (arith, over.1.0, here) in
                  let ends = (inside s a.node.0 p had over.1).ends in
                  inl (over.0, (omega (arith, over.1.0, before.0), omega (arith, before.1)))
              | inr root ↦ inr root
            ]
      ]

  pub split : (n : ℕ) → HasNode s n → (a : NodeId) → IsBelow ts (node_id t n) a → ((a.tree ≡ t) × IsOver s a.node.0 n) ⊎ IsBelow ts (node_id t 0) a
  split n has a below = split_to n n (omega arith) has a below

  over_below_to : (bound a n : ℕ) → n ≤ bound → HasNode s n → IsOver s a n → IsBelow ts (node_id t n) (node_id t a)
  over_below_to zero a n low has over = absurd (omega (arith, over.0))
  over_below_to (suc bound) a n low has over =
      let had : HasNode s a = omega (arith, over.0) in
      let known = inside s a n had over in
      let p = (node_of s n).parent in
      let before = known.parent in
      let least = known.low in
      up_below ts (node_id t n) (node_id t p) (node_id t a) (above_inner ts t n s at has (omega (arith, over.0)))
      (elim (cases_eq a p) [
        | inl same ↦ subst (λ p. IsAtOrBelow ts (node_id t p) (node_id t a)) same (inl refl)
        | inr other ↦
            inr
            (over_below_to bound a p (omega (arith, before.0)) (omega (arith, before.0)) (omega arith, omega (arith, before.0, over.1)))
      ])

  pub over_below : (a n : ℕ) → HasNode s n → IsOver s a n → IsBelow ts (node_id t n) (node_id t a)
  over_below a n has over = over_below_to n a n (omega arith) has over

  root_below_to : (bound n : ℕ) → n ≤ bound → HasNode s n → (a : NodeId) → IsBelow ts (node_id t 0) a → IsBelow ts (node_id t n) a
  root_below_to bound zero low has a below = below
  root_below_to zero (suc n) low has a below = absurd (omega arith)
  root_below_to (suc bound) (suc n) low has a below =
      let before = (inside s 0 (suc n) (omega arith) (below_root s (suc n) has (omega arith))).parent in
      let p = (node_of s (suc n)).parent in
      up_below ts (node_id t (suc n)) (node_id t p) a (above_inner ts t (suc n) s at has (omega arith))
      (inr (root_below_to bound p (omega (arith, before.0)) (omega (arith, before.0)) a below))

  pub root_below : (n : ℕ) → HasNode s n → (a : NodeId) → IsBelow ts (node_id t 0) a → IsBelow ts (node_id t n) a
  root_below n has a below = root_below_to n n (omega arith) has a below
