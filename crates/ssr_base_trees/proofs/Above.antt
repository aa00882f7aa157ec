-- What stands above nodes: the way up ends at a file's root, and calls stand above the roots of what they stand for.
use Rattle.std.proofs.Common.{◌≡◌, ℕ, zero, suc, ◌+◌, ◌-◌, ◌<◌, ◌≤◌, ◌==◌, Bool, true, false, List, [], ◌∷◌, length, slice_get, Option, Some, None, refl, sym, ap, ◌∙◌, subst, inl, inr, ◌⊎◌, arith, eq-eqb, ne_eqb, ltb-true, lt-ltb}
use Rattle.std.proofs.lemmas.Bool.{cases_Bool, cases_eq, cases_lt, cond-true, cond-false, false_from_ne_true}
use Rattle.std.proofs.lemmas.Option.{option_and_then_some, slice_get_within, get_or_from_slice_get, same_Some, none-some}
use Rattle.std.specs.Prelude.{if◌then◌else◌}
use Rattle.std.specs.List.{position_from}
use Rattle.std.specs.Option.{option_map, option_and_then}
use Rattle.ssr_syntax_tree.specs.Syntax.{node_count}
use Rattle.ssr_syntax_tree.specs.Places.{HasNode, node_of}
use Rattle.ssr_base_trees.specs.declared.ids.NodeId.{NodeId}
use Rattle.ssr_base_trees.specs.Workspace.{Expanded, Workspace, PlacedTree, of_expansion, trees, with_number, file_of, node_id, same_id, has_node, told_of, above_in, above, expansion_of}
use Rattle.ssr_base_trees.specs.Built.{IsNodeOf, CallsAreEarlier, IsBuilt}
use Rattle.ssr_base_trees.specs.Laws.{IsEarlier, climbed, file_root, ReachesItsFile}
use Rattle.ssr_base_trees.proofs.Numbers.{placed_at, same_nodes, same_id-itself}
use Rattle.ssr_base_trees.proofs.Parents.{parent_before}
use Rattle.ssr_base_trees.proofs.Placing.{some_and, and_some, mapped, file_at, is_top, is_called, expansion_at, uncalled_within, own_file}

-- ** What a tree tells of a node.

-- what is known of a node of which its tree tells something
pub record IsTold {A : Type 0} (tell : PlacedTree → Option A) (ts : List PlacedTree) (x : NodeId) (value : A) : Type 0 where
  pub tree : PlacedTree
  pub is : with_number ts x.tree ≡ Some tree
  pub has : HasNode tree.syntax x.node.0
  pub tells : tell tree ≡ Some value

pub told_from : {A : Type 0} (tell : PlacedTree → Option A) (ts : List PlacedTree) (x : NodeId) (value : A) → told_of tell ts x ≡ Some value → IsTold tell ts x value
told_from {A} tell ts x value told =
    option_and_then_some {P = IsTold tell ts x value} (λ p. if has_node p.syntax x.node.0 then tell p else None) (with_number ts x.tree) value told
    (λ p is here. tested p is (has_node p.syntax x.node.0) refl here)
  where
    tested : (p : PlacedTree) → with_number ts x.tree ≡ Some p → (b : Bool) → has_node p.syntax x.node.0 ≡ b → ◌≡◌ {A = Option A} (if b then tell p else None) (Some value)
        → IsTold tell ts x value
    tested p is true test here = record { tree = p; is = is; has = ltb-true x.node.0 (1 + node_count p.syntax.children) test; tells = here }
    tested p is false test here = cc

pub told_is : {A : Type 0} (tell : PlacedTree → Option A) (ts : List PlacedTree) (x : NodeId) (p : PlacedTree) → with_number ts x.tree ≡ Some p → HasNode p.syntax x.node.0
    → told_of tell ts x ≡ tell p
told_is tell ts x p is has =
    ap (λ o. option_and_then (λ p. if has_node p.syntax x.node.0 then tell p else None) o) is
    ∙ ap (λ b. if b then tell p else None) (lt-ltb x.node.0 (1 + node_count p.syntax.children) has)

-- ** One step up.

-- it leads to the parent, or from a root to the call
pub step_from : (x above : NodeId) (p : PlacedTree) → above_in x p ≡ Some above
    → ((x.node.0 ≡ 0) × (p.call ≡ Some above)) ⊎ ((0 < x.node.0) × (node_id x.tree (node_of p.syntax x.node.0).parent ≡ above))
step_from x above p is =
    elim (cases_eq x.node.0 0) [
      | inl root ↦
          inl (root, sym (cond-true (x.node.0 == 0) p.call (Some (node_id x.tree (node_of p.syntax x.node.0).parent)) (eq-eqb x.node.0 0 root)) ∙ is)
      | inr inner ↦
          inr (
            omega arith,
            same_Some (node_id x.tree (node_of p.syntax x.node.0).parent) above
                (sym (cond-false (x.node.0 == 0) p.call (Some (node_id x.tree (node_of p.syntax x.node.0).parent)) (ne_eqb x.node.0 0 inner)) ∙ is),
          )
    ]

-- what stands above is a node, and an earlier one
pub record IsUp (ts : List PlacedTree) (x up : NodeId) : Type 0 where
  pub node : IsNodeOf ts up
  pub earlier : IsEarlier up x

pub is_up : (ts : List PlacedTree) (x up : NodeId) → CallsAreEarlier ts → above ts x ≡ Some up → IsUp ts x up
is_up ts x up grown is =
    let told = told_from (above_in x) ts x up is in
    let p = told.tree in
    elim (step_from x up p told.tells) [
      | inl called ↦
          let known = is_called ts x.tree p up grown told.is called.1 in
          record { node = known.node; earlier = inl known.earlier }
      | inr inner ↦
          let before = parent_before p.syntax x.node.0 told.has inner.0 in
          subst (IsUp ts x) inner.1
          (record {
            node = and_some (with_number ts x.tree) (λ p. HasNode p.syntax (node_of told.tree.syntax x.node.0).parent) p told.is (omega (arith, before, told.has));
            earlier = inr (refl, before);
          })
    ]

pub above_inner : (ts : List PlacedTree) (t n : ℕ) (p : PlacedTree) → with_number ts t ≡ Some p → HasNode p.syntax n → 0 < n → above ts (node_id t n) ≡ Some (node_id t (node_of p.syntax n).parent)
above_inner ts t n p is has inner =
    told_is (above_in (node_id t n)) ts (node_id t n) p is has
    ∙ cond-false (n == 0) p.call (Some (node_id t (node_of p.syntax n).parent)) (ne_eqb n 0 (λ e. omega arith))

pub above_root : (ts : List PlacedTree) (t : ℕ) (p : PlacedTree) → with_number ts t ≡ Some p → above ts (node_id t 0) ≡ p.call
above_root ts t p is = told_is (above_in (node_id t 0)) ts (node_id t 0) p is (omega arith)

-- ** The way up.

pub climbed_next : (ts : List PlacedTree) (n : ℕ) (x y : NodeId) → above ts x ≡ Some y → climbed ts (suc n) x ≡ climbed ts n y
climbed_next ts n x y is = ap (option_and_then (climbed ts n)) is

pub climbed_on : (ts : List PlacedTree) (n m : ℕ) (x y z : NodeId) → climbed ts n x ≡ Some y → climbed ts m y ≡ Some z → climbed ts (n + m) x ≡ Some z
climbed_on ts zero m x y z first second =
    ap (λ k. climbed ts k x) (let same : 0 + m ≡ m = omega arith in same) ∙ ap (climbed ts m) (same_Some x y first) ∙ second
climbed_on ts (suc n) m x y z first second =
    ap (λ k. climbed ts k x) (let same : suc n + m ≡ suc (n + m) = omega arith in same)
    ∙ option_and_then_some {P = climbed ts (suc (n + m)) x ≡ Some z} (climbed ts n) (above ts x) y first
    (λ c is rest. climbed_next ts (n + m) x c is ∙ climbed_on ts n m c y z rest second)

-- from a node to its tree's root
to_root : (ts : List PlacedTree) (t : ℕ) (p : PlacedTree) (bound n : ℕ) → n ≤ bound → with_number ts t ≡ Some p → HasNode p.syntax n
    → (steps : ℕ) × (climbed ts steps (node_id t n) ≡ Some (node_id t 0))
to_root ts t p bound zero low is has = (0, refl)
to_root ts t p zero (suc n) low is has = absurd (omega arith)
to_root ts t p (suc bound) (suc n) low is has =
    let parent = (node_of p.syntax (suc n)).parent in
    let before : parent < suc n = parent_before p.syntax (suc n) has (omega arith) in
    let rest = to_root ts t p bound parent (omega arith) is (omega arith) in
    (suc rest.0, climbed_next ts rest.0 (node_id t (suc n)) (node_id t parent) (above_inner ts t (suc n) p is has (omega arith)) ∙ rest.1)

-- the steps from a tree's root to that of the file at the top
to_file : (w : Workspace) (bound t : ℕ) (p : PlacedTree) → t < bound → CallsAreEarlier (trees w) → with_number (trees w) t ≡ Some p
    → (steps : ℕ) × (climbed (trees w) steps (node_id t 0) ≡ Some (node_id (file_of (trees w) t) 0))
to_file w zero t p low grown is = absurd (omega arith)
to_file w (suc bound) t p low grown is = called p.call refl (λ s q less e. to_file w bound s q less grown e)
  where
    called : (o : Option NodeId) → p.call ≡ o
        → ((s : ℕ) (q : PlacedTree) → s < bound → with_number (trees w) s ≡ Some q → (steps : ℕ) × (climbed (trees w) steps (node_id s 0) ≡ Some (node_id (file_of (trees w) s) 0)))
        → (steps : ℕ) × (climbed (trees w) steps (node_id t 0) ≡ Some (node_id (file_of (trees w) t) 0))
    called None none further = (0, ap (λ f. Some (node_id f 0)) (sym (own_file w t (uncalled_within w t p is none))))
    called (Some call) some further =
        let known = is_called (trees w) t p call grown is some in
        let earlier = known.earlier in
        let had = some_and (with_number (trees w) call.tree) (λ q. HasNode q.syntax call.node.0) known.node in
        let up = to_root (trees w) call.tree had.0 call.node.0 call.node.0 (omega arith) had.1 had.2 in
        let top = further call.tree had.0 (omega arith) had.1 in (
          suc (up.0 + top.0),
          climbed_next (trees w) (up.0 + top.0) (node_id t 0) call (above_root (trees w) t p is ∙ some)
              ∙ climbed_on (trees w) up.0 top.0 call (node_id call.tree 0) (node_id (file_of (trees w) call.tree) 0) up.1 top.1
              ∙ ap (λ f. Some (node_id f 0)) (sym known.file),
        )

pub reaches_its_file : (w : Workspace) (x : NodeId) → IsBuilt w → IsNodeOf (trees w) x → ReachesItsFile w x
reaches_its_file w x b node =
    let had = some_and (with_number (trees w) x.tree) (λ p. HasNode p.syntax x.node.0) node in
    let up = to_root (trees w) x.tree had.0 x.node.0 x.node.0 (omega arith) had.1 had.2 in
    let on = to_file w (suc x.tree) x.tree had.0 (omega arith) b.grown had.1 in
    let top = is_top (trees w) x.tree had.0 b.grown had.1 in
    record {
      steps = up.0 + on.0;
      reached = climbed_on (trees w) up.0 on.0 x (node_id x.tree 0) (file_root (trees w) x) up.1 on.1;
      is_file = uncalled_within w (file_of (trees w) x.tree) top.tree top.is top.uncalled;
      top = above_root (trees w) (file_of (trees w) x.tree) top.tree top.is ∙ top.uncalled;
    }

-- ** Calls and roots.

-- what stands at the place that is found
found_at : {A : Type 0} (test : A → Bool) (i n : ℕ) (xs : List A) → position_from test i xs ≡ Some n
    → (k : ℕ) × (x : A) × (i + k ≡ n) × (slice_get xs k ≡ Some x) × (test x ≡ true)
found_at test i n [] is = cc
found_at test i n (x ∷ xs) is =
    elim (cases_Bool (test x)) [
      | inl passes ↦
          let here : i ≡ n = same_Some i n (sym (cond-true (test x) (Some i) (position_from test (i + 1) xs) passes) ∙ is) in
          (0, x, omega arith, refl, passes)
      | inr fails ↦
          let later = found_at test (i + 1) n xs (sym (cond-false (test x) (Some i) (position_from test (i + 1) xs) fails) ∙ is) in
          let place = later.2 in
          (suc later.0, later.1, omega arith, later.3, later.4)
    ]

pub call_above : (w : Workspace) (call root : NodeId) → expansion_of w call ≡ Some root → above (trees w) root ≡ Some call
call_above w call root is =
    let number = mapped (λ n. node_id (length w.files + n) 0) (position_from (λ e. same_id call e.call) 0 w.expansions) root is in
    let found = found_at (λ (e : Expanded). same_id call e.call) 0 number.0 w.expansions number.1 in
    let place = found.2 in
    let same : length w.files + number.0 - length w.files ≡ found.0 = omega arith in
    ap (above (trees w)) (sym number.2)
    ∙ above_root (trees w) (length w.files + number.0) (of_expansion found.1)
    (placed_at w (length w.files + number.0) found.1 (omega arith) (ap (slice_get w.expansions) same ∙ found.3))
    ∙ ap Some (sym (same_nodes call found.1.call found.4))

-- the place of the first one that passes
found_first : {A : Type 0} (test : A → Bool) (i n : ℕ) (xs : List A) (x : A) → slice_get xs n ≡ Some x → test x ≡ true
    → ((k : ℕ) (y : A) → k < n → slice_get xs k ≡ Some y → test y ≡ false) → position_from test i xs ≡ Some (i + n)
found_first test i n [] x at passes before = cc
found_first test i zero (y ∷ ys) x at passes before =
    let here : test y ≡ true = ap test (same_Some y x at) ∙ passes in
    cond-true (test y) (Some i) (position_from test (i + 1) ys) here ∙ ap Some (let same : i ≡ i + 0 = omega arith in same)
found_first test i (suc n) (y ∷ ys) x at passes before =
    cond-false (test y) (Some i) (position_from test (i + 1) ys) (before 0 y (omega arith) refl)
    ∙ found_first test (i + 1) n ys x at passes (λ k z less is. before (suc k) z (omega arith) is)
    ∙ ap Some (let same : i + 1 + n ≡ i + suc n = omega arith in same)

pub root_found : (w : Workspace) (call root : NodeId) → IsBuilt w → root.node.0 ≡ 0 → above (trees w) root ≡ Some call → expansion_of w call ≡ Some root
root_found w call root b is_root up =
    let told = told_from (above_in root) (trees w) root call up in
    elim (step_from root call told.tree told.tells) [
      | inr inner ↦ absurd (omega (arith, inner.0))
      | inl called ↦
          elim (cases_lt root.tree (length w.files)) [
            | inl within ↦
                let at = file_at w root.tree told.tree within told.is in
                absurd (none-some call (ap (λ (p : PlacedTree). p.call) at.plants ∙ called.1))
            | inr behind ↦
                let at = expansion_at w root.tree told.tree behind told.is in
                let n = root.tree - length w.files in
                let by : at.expanded.call ≡ call = same_Some at.expanded.call call (ap (λ (p : PlacedTree). p.call) at.plants ∙ called.1) in
                let earlier : (k : ℕ) (e : Expanded) → k < n → slice_get w.expansions k ≡ Some e → same_id call e.call ≡ false =
                λ k e less is.
                false_from_ne_true (same_id call e.call)
                (λ same.
                b.once k n e less (slice_get_within w.expansions n at.expanded at.is)
                (ap (λ (e : Expanded). e.call) (get_or_from_slice_get w.expansions k e e is)
                ∙ sym (same_nodes call e.call same)
                ∙ sym by
                ∙ ap (λ (e : Expanded). e.call) (sym (get_or_from_slice_get w.expansions n at.expanded e at.is)))) in
                ap (option_map (λ n. node_id (length w.files + n) 0))
                (found_first (λ (e : Expanded). same_id call e.call) 0 n w.expansions at.expanded at.is
                (ap (λ c. same_id c at.expanded.call) (sym by) ∙ same_id-itself at.expanded.call) earlier)
                ∙ ap (λ t. Some (node_id t 0)) (let same : length w.files + (0 + n) ≡ root.tree = omega arith in same)
                ∙ ap (λ n. Some (node_id root.tree n)) (sym is_root)
          ]
    ]
