-- How often rules are tried at most: as often as nodes are permitted for them.
use Rattle.std.proofs.Common.{◌≡◌, ℕ, zero, suc, ◌+◌, ◌<◌, ◌≤◌, ◌==◌, Bool, true, false, cond, ◌&&◌, ◌||◌, List, [], ◌∷◌, length, get_or, Some, refl, sym, ap, ◌∙◌, subst, inl, inr, ◌⊎◌, arith}
use Rattle.std.specs.Prelude.{nat_lt, slice_get, Contains}
use Rattle.std.specs.List.{filter}
use Rattle.std.proofs.lemmas.Bool.{or_cases, or_left, or_right, and_parts, and_from, ltb-true, lt-ltb, eqb-true, eq-eqb}
use Rattle.std.proofs.lemmas.List.Sums.{length-filter, count_by-le-length}
use Rattle.std.proofs.lemmas.Option.{same_Some, slice_get_within}
use Rattle.ssr_base_trees.specs.declared.ids.NodeId.{NodeId}
use Rattle.ssr_base_trees.specs.Workspace.{Workspace, node_id}
use Rattle.ide_ssr_resolved_rule.specs.Resolved.{ResolvedRule}
use Rattle.ide_ssr_search.specs.Context.{Context}
use Rattle.ide_ssr_search.specs.Permitted.{IsPermitted}
use Rattle.ide_ssr_search.specs.Found.{IsWanted}
use Rattle.ide_ssr_search.specs.Tries.{IsMostWanted, IsMostOf}
use Rattle.ide_ssr_search.specs.Private.Scan.{CountsTry, AreLimits, KeepsLimits}

-- ** Of two tests, where what passes the one passes the other one.

module _ {X : Type 0} (ps qs : List X) (x : X) where
  more_step : (a b : Bool) → (a ≡ true → b ≡ true) → length ps ≤ length qs → length (cond a (x ∷ ps) ps) ≤ length (cond b (x ∷ qs) qs)
  more_step true true on less = omega (arith, less)
  more_step true false on less = let e : false ≡ true = on refl in cc
  more_step false true on less = omega (arith, less)
  more_step false false on less = less

  one_step : (a b : Bool) → (a ≡ true → b ≡ true) → length ps + 1 ≤ length qs → length (cond a (x ∷ ps) ps) + 1 ≤ length (cond b (x ∷ qs) qs)
  one_step true true on less = omega (arith, less)
  one_step true false on less = let e : false ≡ true = on refl in cc
  one_step false true on less = omega (arith, less)
  one_step false false on less = less

  first_step : (a b : Bool) → a ≡ false → b ≡ true → length ps ≤ length qs → length (cond a (x ∷ ps) ps) + 1 ≤ length (cond b (x ∷ qs) qs)
  first_step true b fails passes less = let e : true ≡ false = fails in cc
  first_step false true fails passes less = omega (arith, less)
  first_step false false fails passes less = let e : false ≡ true = passes in cc

module _ {X : Type 0} (p q : X → Bool) (on : (x : X) → p x ≡ true → q x ≡ true) where
  passes_more : (xs : List X) → length (filter p xs) ≤ length (filter q xs)
  passes_more [] = omega arith
  passes_more (x ∷ xs) = more_step (filter p xs) (filter q xs) x (p x) (q x) (on x) (passes_more xs)

  passes_one_more : (x : X) → p x ≡ false → q x ≡ true → (xs : List X) (k : ℕ) → k < length xs → get_or xs k x ≡ x → length (filter p xs) + 1 ≤ length (filter q xs)
  passes_one_more x fails passes [] k within is = absurd (omega (arith, within))
  passes_one_more x fails passes (y ∷ ys) zero within is =
      first_step (filter p ys) (filter q ys) y (p y) (q y) (ap p is ∙ fails) (ap q is ∙ passes) (passes_more ys)
  passes_one_more x fails passes (y ∷ ys) (suc k) within is =
      one_step (filter p ys) (filter q ys) y (p y) (q y) (on y) (passes_one_more x fails passes ys k (omega (arith, within)) is)

-- ** Nodes of a list that stand before a place.

abbrev is_passed : ℕ → ℕ → NodeId → Bool
is_passed t n x = nat_lt x.tree t || ((x.tree == t) && nat_lt x.node.0 n)

abbrev IsPassed : ℕ → ℕ → NodeId → Type 0
IsPassed t n x = (x.tree < t) ⊎ ((x.tree ≡ t) × (x.node.0 < n))

abbrev passed : ℕ → ℕ → List NodeId → ℕ
passed t n xs = length (filter (is_passed t n) xs)

passed_told : (t n : ℕ) (x : NodeId) → is_passed t n x ≡ true → IsPassed t n x
passed_told t n x is =
    elim (or_cases (nat_lt x.tree t) ((x.tree == t) && nat_lt x.node.0 n) is) [
      | inl less ↦ inl (ltb-true x.tree t less)
      | inr both ↦
          let parts = and_parts (x.tree == t) (nat_lt x.node.0 n) both in
          inr (eqb-true x.tree t parts.0, ltb-true x.node.0 n parts.1)
    ]

told_passed : (t n : ℕ) (x : NodeId) → IsPassed t n x → is_passed t n x ≡ true
told_passed t n x (inl less) = or_left (nat_lt x.tree t) ((x.tree == t) && nat_lt x.node.0 n) (lt-ltb x.tree t less)
told_passed t n x (inr same) =
    or_right (nat_lt x.tree t) ((x.tree == t) && nat_lt x.node.0 n)
    (and_from (x.tree == t) (nat_lt x.node.0 n) (eq-eqb x.tree t same.0) (lt-ltb x.node.0 n same.1))

next_passed : (t n : ℕ) (x : NodeId) → IsPassed t n x → IsPassed t (n + 1) x
next_passed t n x (inl less) = inl less
next_passed t n x (inr same) = let less = same.1 in inr (same.0, omega (arith, less))

tree_passed : (t n : ℕ) (x : NodeId) → IsPassed t n x → IsPassed (t + 1) 0 x
tree_passed t n x (inl less) = inl (omega (arith, less))
tree_passed t n x (inr same) = let e = same.0 in inl (omega (arith, e))

passed_node : (t n : ℕ) (xs : List NodeId) → passed t n xs ≤ passed t (n + 1) xs
passed_node t n xs =
    passes_more (is_passed t n) (is_passed t (n + 1)) (λ x is. told_passed t (n + 1) x (next_passed t n x (passed_told t n x is))) xs

passed_tree : (t n : ℕ) (xs : List NodeId) → passed t n xs ≤ passed (t + 1) 0 xs
passed_tree t n xs =
    passes_more (is_passed t n) (is_passed (t + 1) 0) (λ x is. told_passed (t + 1) 0 x (tree_passed t n x (passed_told t n x is))) xs

no_truth : (b : Bool) → (b ≡ true → ⊥) → b ≡ false
no_truth true never = absurd (never refl)
no_truth false never = refl

itself_passed : (t n : ℕ) → IsPassed t n (node_id t n) → ⊥
itself_passed t n (inl less) = omega (arith, less)
itself_passed t n (inr same) = let less = same.1 in omega (arith, less)

-- a node that is passed adds one
passed_there : (t n : ℕ) (xs : List NodeId) → Contains xs (node_id t n) → passed t n xs + 1 ≤ passed t (n + 1) xs
passed_there t n xs has =
    let x = node_id t n in
    passes_one_more (is_passed t n) (is_passed t (n + 1)) (λ x is. told_passed t (n + 1) x (next_passed t n x (passed_told t n x is)))
    x (no_truth (is_passed t n x) (λ is. itself_passed t n (passed_told t n x is))) (told_passed t (n + 1) x (inr (refl, omega arith)))
    xs has.0 has.1 has.2

passed_within : (t n : ℕ) (xs : List NodeId) → passed t n xs ≤ length xs
passed_within t n xs = omega (arith, length-filter (is_passed t n) xs, count_by-le-length (is_passed t n) xs)

-- ** A limit of given lists.

-- as many as stand before a place in the list of the first rule, and as the limit of the others says
abbrev with_first : List NodeId → (ℕ → ℕ → ℕ → ℕ) → ℕ → ℕ → ℕ → ℕ
with_first xs others t n zero = passed t n xs + others t n 0
with_first xs others t n (suc r) = passed t (n + 1) xs + others t n r

module _ (w : Workspace) (context : Context) where
  abbrev Limit : List ResolvedRule → List Bool → ℕ → Type 0
  Limit rules wanted most = (limit : ℕ → ℕ → ℕ → ℕ) × AreLimits w context rules wanted limit × ((t n r : ℕ) → limit t n r ≤ most)

  none_tried : (rules : List ResolvedRule) (wanted : List Bool) (most : ℕ) → ((r : ℕ) (rule : ResolvedRule) → slice_get rules r ≡ Some rule → IsWanted wanted r → ⊥)
      → Limit rules wanted most
  none_tried rules wanted most none = (
    λ t n r. 0,
    record {
      tried = λ t n r rule is flag permitted. absurd (none r rule is flag);
      next_rule = λ t n r. omega arith;
      next_node = λ t n r. omega arith;
      next_tree = λ t n. omega arith;
    },
    λ t n r. omega arith,
  )

  own_list : (rule : ResolvedRule) (flag : Bool) (own : ℕ) → IsMostWanted w context rule flag own
      → (xs : List NodeId) × (flag ≡ true → (x : NodeId) → IsPermitted w context rule x → Contains xs x) × (own ≡ length xs)
  own_list rule true own is = (is.0, λ _ x permitted. (is.1.are x).1 permitted, is.2)
  own_list rule false own is = ([], λ flag x permitted. (let e : false ≡ true = flag in cc), is)

  module _ (rule : ResolvedRule) (rules : List ResolvedRule) (flag : Bool) (wanted : List Bool) (xs : List NodeId) (others : ℕ → ℕ → ℕ → ℕ)
      (has : flag ≡ true → (x : NodeId) → IsPermitted w context rule x → Contains xs x) (are : AreLimits w context rules wanted others) where
    next_rule : (t n r : ℕ) → with_first xs others t n r ≤ with_first xs others t n (r + 1)
    next_rule t n zero = omega (arith, passed_node t n xs)
    next_rule t n (suc r) =
        let e : suc (r + 1) ≡ suc r + 1 = omega arith in
        subst (λ k. with_first xs others t n (suc r) ≤ with_first xs others t n k) e (omega (arith, are.next_rule t n r))

    tried : (t n r : ℕ) (other : ResolvedRule) → slice_get (rule ∷ rules) r ≡ Some other → IsWanted (flag ∷ wanted) r → IsPermitted w context other (node_id t n)
        → with_first xs others t n r + 1 ≤ with_first xs others t n (r + 1)
    tried t n zero other is flagged permitted =
        let there = has (same_Some flag true flagged) (node_id t n) (subst (λ rule. IsPermitted w context rule (node_id t n)) (sym (same_Some rule other is)) permitted) in
        omega (arith, passed_there t n xs there)
    tried t n (suc r) other is flagged permitted =
        let e : suc (r + 1) ≡ suc r + 1 = omega arith in
        let one = are.tried t n r other is flagged permitted in
        subst (λ k. with_first xs others t n (suc r) + 1 ≤ with_first xs others t n k) e (omega (arith, one))

    next_node : (t n r : ℕ) → with_first xs others t n r ≤ with_first xs others t (n + 1) 0
    next_node t n zero = omega (arith, passed_node t n xs, are.next_node t n 0)
    next_node t n (suc r) = omega (arith, are.next_node t n r)

    first_limits : AreLimits w context (rule ∷ rules) (flag ∷ wanted) (with_first xs others)
    first_limits = record {
      tried = tried;
      next_rule = next_rule;
      next_node = next_node;
      next_tree = λ t n. omega (arith, passed_tree t n xs, are.next_tree t n);
    }

  first_within : (xs : List NodeId) (others : ℕ → ℕ → ℕ → ℕ) (most : ℕ) → ((t n r : ℕ) → others t n r ≤ most) → (t n r : ℕ) → with_first xs others t n r ≤ length xs + most
  first_within xs others most within t n zero = omega (arith, passed_within t n xs, within t n 0)
  first_within xs others most within t n (suc r) = omega (arith, passed_within t (n + 1) xs, within t n r)

  -- the nodes that are permitted for the wanted rules have a limit, which stays below their number
  limit_of : (rules : List ResolvedRule) (wanted : List Bool) (most : ℕ) → IsMostOf w context rules wanted most → Limit rules wanted most
  limit_of [] wanted most is = none_tried [] wanted most (λ r rule is _. omega (arith, slice_get_within [] r rule is))
  limit_of (rule ∷ rules) [] most is = none_tried (rule ∷ rules) [] most (λ r rule _ is. omega (arith, slice_get_within [] r true is))
  limit_of (rule ∷ rules) (flag ∷ wanted) most is =
      let own = own_list rule flag is.0 is.2 in
      let others = limit_of rules wanted is.1 is.3 in (
        with_first own.0 others.0,
        first_limits rule rules flag wanted own.0 others.0 own.1 others.1,
        λ t n r. omega (arith, first_within own.0 others.0 is.1 others.2 t n r, own.2, is.4),
      )

-- ** Steps of a scan.

module _ (w : Workspace) (context : Context) (rules : List ResolvedRule) (wanted : List Bool) where
  pub kept_none : (t n : ℕ) (tries : ℕ) → KeepsLimits w context rules wanted t n t n 0 tries tries
  kept_none t n tries limit are = omega arith

  -- a wanted rule is tried, or not
  pub kept_try : (t n r : ℕ) (rule : ResolvedRule) (first old new : ℕ) → slice_get rules r ≡ Some rule → IsWanted wanted r
      → KeepsLimits w context rules wanted t n t n r first old → CountsTry w context rule (node_id t n) old new → KeepsLimits w context rules wanted t n t n (r + 1) first new
  kept_try t n r rule first old new is flag kept (inl same) limit are = omega (arith, kept limit are, are.next_rule t n r, same)
  kept_try t n r rule first old new is flag kept (inr more) limit are =
      let one = more.1 in
      omega (arith, kept limit are, are.tried t n r rule is flag more.0, one)

  -- a rule is passed over
  pub kept_rule : (t n r : ℕ) (first old : ℕ) → KeepsLimits w context rules wanted t n t n r first old → KeepsLimits w context rules wanted t n t n (r + 1) first old
  kept_rule t n r first old kept limit are = omega (arith, kept limit are, are.next_rule t n r)

  -- all rules are tried at a node, or none is
  pub kept_node : (s m t n r : ℕ) (first old : ℕ) → KeepsLimits w context rules wanted s m t n r first old → KeepsLimits w context rules wanted s m t (n + 1) 0 first old
  kept_node s m t n r first old kept limit are = omega (arith, kept limit are, are.next_node t n r)

  pub kept_tree : (s m t n : ℕ) (first old : ℕ) → KeepsLimits w context rules wanted s m t n 0 first old → KeepsLimits w context rules wanted s m (t + 1) 0 0 first old
  kept_tree s m t n first old kept limit are = omega (arith, kept limit are, are.next_tree t n)

  -- one step after another
  pub kept_on : (s m t n u o r : ℕ) (first old new : ℕ) → KeepsLimits w context rules wanted s m t n 0 first old → KeepsLimits w context rules wanted t n u o r old new
      → KeepsLimits w context rules wanted s m u o r first new
  kept_on s m t n u o r first old new kept next limit are = omega (arith, kept limit are, next limit are)

  -- at the end
  pub kept_all : (t n : ℕ) (first new most : ℕ) → KeepsLimits w context rules wanted 0 0 t n 0 first new → IsMostOf w context rules wanted most → new ≤ first + most
  kept_all t n first new most kept is =
      let limit = limit_of w context rules wanted most is in
      omega (arith, kept limit.0 limit.1, limit.2 t n 0)
