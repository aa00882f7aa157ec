-- Nodes of which none comes twice, also once they are put in another order.
use Rattle.std.proofs.Common.{◌≡◌, ℕ, ◌+◌, ◌≤◌, ◌≢◌, ◌==◌, Bool, true, false, cond, List, [], ◌∷◌, All, AllPairs, refl, sym, ap, ◌∙◌, subst, arith, eq-eqb}
use Rattle.std.specs.Prelude.{sum_by}
use Rattle.std.specs.List.Sorted.{IsPermutation}
use Rattle.std.proofs.lemmas.Bool.{and_from}
use Rattle.std.proofs.lemmas.List.Elements.{All-nil, All-cons, All-head, All-tail}
use Rattle.std.proofs.lemmas.List.Kept.{AllPairs-cons}
use Rattle.std.proofs.lemmas.List.Sorted.{sum_by-IsPermutation}
use Rattle.std.proofs.lemmas.List.Sums.{sum_by-cons}
use Rattle.ssr_base_trees.specs.declared.ids.NodeId.{NodeId}
use Rattle.ssr_base_trees.specs.Workspace.{same_id}
use Rattle.ssr_base_trees.proofs.Shared.{same_nodes}
use Rattle.ssr_syntax_tree.proofs.Lists.{pairs_none, pairs_head, pairs_tail}

-- 1 for the node itself, 0 for any other
abbrev counted : NodeId → NodeId → ℕ
counted x y = cond (same_id x y) 1 0

itself : (x : NodeId) → same_id x x ≡ true
itself x = and_from (x.tree == x.tree) (x.node.0 == x.node.0) (eq-eqb x.tree x.tree refl) (eq-eqb x.node.0 x.node.0 refl)

counted_itself : (x : NodeId) → counted x x ≡ 1
counted_itself x = ap (λ (b : Bool). cond b 1 0) (itself x)

counted_same : (x y : NodeId) → x ≡ y → counted x y ≡ 1
counted_same x y same = subst (λ y. counted x y ≡ 1) same (counted_itself x)

counted_other : (x y : NodeId) → x ≢ y → counted x y ≡ 0
counted_other x y other = by (same_id x y) refl
  where
    by : (b : Bool) → same_id x y ≡ b → ◌≡◌ {A = ℕ} (cond b 1 0) 0
    by true is = absurd (other (same_nodes x y is))
    by false is = refl

abbrev copies : NodeId → List NodeId → ℕ
copies x xs = sum_by (counted x) xs

none_there : (x : NodeId) (xs : List NodeId) → All (λ y. x ≢ y) xs → copies x xs ≡ 0
none_there x [] others = refl
none_there x (y ∷ xs) others =
    omega (arith, sum_by-cons (counted x) y xs, counted_other x y (All-head (λ y. x ≢ y) y xs others), none_there x xs (All-tail (λ y. x ≢ y) y xs others))

none_back : (x : NodeId) (xs : List NodeId) → copies x xs ≡ 0 → All (λ y. x ≢ y) xs
none_back x [] none = All-nil (λ y. x ≢ y)
none_back x (y ∷ xs) none =
    All-cons (λ y. x ≢ y) y xs (λ same. omega (arith, sum_by-cons (counted x) y xs, counted_same x y same)) (none_back x xs (omega (arith, sum_by-cons (counted x) y xs)))

once_each : (xs : List NodeId) → AllPairs (λ a b. a ≢ b) xs → (x : NodeId) → copies x xs ≤ 1
once_each [] once x = let none : copies x [] ≡ 0 = refl in omega arith
once_each (y ∷ xs) once x = by (once_each xs (pairs_tail (λ a b. a ≢ b) y xs once) x) (same_id x y) refl
  where
    by : copies x xs ≤ 1 → (b : Bool) → same_id x y ≡ b → copies x (y ∷ xs) ≤ 1
    by rest true is =
        let same = same_nodes x y is in
        omega (
          arith,
          sum_by-cons (counted x) y xs,
          counted_same x y same,
          none_there x xs (subst (λ y. All (λ z. y ≢ z) xs) (sym same) (pairs_head (λ a b. a ≢ b) y xs once)),
        )
    by rest false is =
        let other : counted x y ≡ 0 = ap (λ (b : Bool). cond b 1 0) is in
        omega (arith, sum_by-cons (counted x) y xs, other)

once_back : (xs : List NodeId) → ((x : NodeId) → copies x xs ≤ 1) → AllPairs (λ a b. a ≢ b) xs
once_back [] most = pairs_none (λ a b. a ≢ b)
once_back (y ∷ xs) most =
    AllPairs-cons (λ a b. a ≢ b) y xs (none_back y xs (omega (arith, most y, counted_itself y, sum_by-cons (counted y) y xs)))
    (once_back xs (λ x. omega (arith, most x, sum_by-cons (counted x) y xs)))

pub once_moved : (xs ys : List NodeId) → IsPermutation xs ys → AllPairs (λ a b. a ≢ b) xs → AllPairs (λ a b. a ≢ b) ys
once_moved xs ys moved once =
    once_back ys (λ x. omega (arith, sum_by-IsPermutation (counted x) xs ys moved, once_each xs once x))
