-- Matches in placeholders of others.
use Rattle.std.proofs.Common.{◌≡◌, ℕ, ◌+◌, ◌<◌, ◌≤◌, ◌↔◌, inl, inr, Bool, true, false, List, length, get_or, Option, Some, None, refl, sym, ap, ◌∙◌, subst, arith}
use Rattle.std.proofs.lemmas.Bool.{cases_order}
use Rattle.std.proofs.lemmas.Option.{same_Some, slice_get_within, slice_get-get_or, get_or_from_slice_get}
use Rattle.std.specs.Prelude.{IsTrue, MatchOption, is_some}
use Rattle.std.specs.Option.{IsSomeAnd}
use Rattle.ssr_base_trees.specs.declared.ids.NodeId.{NodeId}
use Rattle.ssr_base_trees.specs.Workspace.{PlacedTree, FileSpan, original_range}
use Rattle.ssr_base_trees.specs.Laws.{LiesIn}
use Rattle.ide_ssr_bindings.specs.declared.bindings.Binding.{Binding}
use Rattle.ide_ssr_bindings.specs.Found.{FoundMatch, HasByte, ShareNoByte, IsInRange, IsMatch, held_range, node_binding}
use Rattle.ide_ssr_nesting.specs.Kept.{LiesWithin, LiesUnder}
use Rattle.ssr_syntax_tree.proofs.Lists.{all_at, pairs_at}

-- the two ranges, one of which lies in the other
pub record Ranges (inner outer : Option FileSpan) : Type 0 where
  pub small : FileSpan
  pub large : FileSpan
  pub is_small : inner ≡ Some small
  pub is_large : outer ≡ Some large
  pub lies : LiesIn small large

pub ranges_of : (inner outer : Option FileSpan) → LiesWithin inner outer → Ranges inner outer
ranges_of None outer within = absurd within
ranges_of (Some i) None within = absurd within
ranges_of (Some i) (Some o) within = record { small = i; large = o; is_small = refl; is_large = refl; lies = within }

pub within_of : (inner outer : Option FileSpan) → Ranges inner outer → LiesWithin inner outer
within_of inner outer r =
    subst (λ i. LiesWithin i outer) (sym r.is_small) (subst (LiesWithin (Some r.small)) (sym r.is_large) r.lies)

lies_trans : (a b c d : FileSpan) → LiesIn a b → b ≡ c → LiesIn c d → LiesIn a d
lies_trans a b c d x same y =
    let first = x.begins in
    let last = x.ends in
    let begins = y.begins in
    let ends = y.ends in
    let start = ap (λ (r : FileSpan). r.span.start) same in
    let end = ap (λ (r : FileSpan). r.span.end) same in
    record { file = x.file ∙ ap (λ (r : FileSpan). r.file) same ∙ y.file; begins = omega arith; ends = omega arith }

-- what lies in a range that lies in another one
within_trans : (a b c : Option FileSpan) → LiesWithin a b → LiesWithin b c → LiesWithin a c
within_trans a b c first next =
    let x = ranges_of a b first in
    let y = ranges_of b c next in
    within_of a c
    (record {
      small = x.small;
      large = y.large;
      is_small = x.is_small;
      is_large = y.is_large;
      lies = lies_trans x.small x.large y.small y.large x.lies (same_Some x.large y.small (sym x.is_large ∙ y.is_small)) y.lies;
    })

module _ (trees : List PlacedTree) where
  -- what lies in a placeholder of a match lies in whatever that match lies in
  pub under_outer : (j k m : FoundMatch) (i n : ℕ) → IsMatch trees k → LiesUnder trees k m i → LiesUnder trees j k n → LiesUnder trees j m n
  under_outer j k m i n match inner outer =
      let held = held_range trees k.node.tree inner.binding in
      record {
        binding = outer.binding;
        is = outer.is;
        within =
            within_trans (original_range trees m.node) (original_range trees k.node) (held_range trees j.node.tree outer.binding)
            (within_trans (original_range trees m.node) held (original_range trees k.node) inner.within
            (all_at (IsInRange trees k.node) k.bindings i inner.binding match.held inner.is))
            outer.within;
      }

  -- a match lies in one placeholder of another at most
  not_under_both : (k m : FoundMatch) (i n : ℕ) → i < n → IsMatch trees k → IsMatch trees m → LiesUnder trees k m i → LiesUnder trees k m n → ⊥
  not_under_both k m i n less match inner a b =
      let first = ranges_of (original_range trees m.node) (held_range trees k.node.tree a.binding) a.within in
      let next = ranges_of (original_range trees m.node) (held_range trees k.node.tree b.binding) b.within in
      let apart = pairs_at (ShareNoByte trees k.node.tree) k.bindings i n a.binding b.binding match.apart less a.is b.is first.large next.large first.is_large next.is_large in
      let same = same_Some first.small next.small (sym first.is_small ∙ next.is_small) in
      let start = ap (λ (r : FileSpan). r.span.start) same in
      let end = ap (λ (r : FileSpan). r.span.end) same in
      let byte : HasByte first.small = subst (λ o. IsSomeAnd o HasByte) first.is_small inner.range in
      let in_first = first.lies in
      let in_next = next.lies in
      omega arith

  pub one_placeholder : (k m : FoundMatch) (i n : ℕ) → IsMatch trees k → IsMatch trees m → LiesUnder trees k m i → LiesUnder trees k m n → i ≡ n
  one_placeholder k m i n match inner a b =
      elim (cases_order i n) [
        | inl same ↦ same
        | inr (inl less) ↦ absurd (not_under_both k m i n less match inner a b)
        | inr (inr more) ↦ absurd (not_under_both k m n i more match inner b a)
      ]

  -- ** What the code tells.

  abbrev none_bound : Binding
  none_bound = node_binding 0 0

  binding_tested : (k m : FoundMatch) (i : ℕ) (range : FileSpan) (r : Bool) → Some range ≡ original_range trees m.node → i < length k.bindings
      → IsTrue r ↔ IsSomeAnd (held_range trees k.node.tree (get_or k.bindings i none_bound)) (LiesIn range)
      → IsTrue r ↔ LiesUnder trees k m i
  binding_tested k m i range r is within told =
      let binding = get_or k.bindings i none_bound in (
        (λ yes. record {
          binding = binding;
          is = slice_get-get_or k.bindings i none_bound within;
          within = subst (λ o. LiesWithin o (held_range trees k.node.tree binding)) is (told.0 yes);
        }),
        (λ under. told.1
            (subst (λ (b : Binding). IsSomeAnd (held_range trees k.node.tree b) (LiesIn range))
            (sym (get_or_from_slice_get k.bindings i under.binding none_bound under.is))
            (subst (λ o. LiesWithin o (held_range trees k.node.tree under.binding)) (sym is) under.within))),
      )

  pub binding_read : (k m : FoundMatch) (bs : List Binding) (i : ℕ) (at_m at_k : NodeId) (range : FileSpan) (held : Option FileSpan) (r : Bool)
      → bs ≡ k.bindings → at_m ≡ m.node → at_k ≡ k.node → held ≡ held_range trees at_k.tree (get_or bs i none_bound) → Some range ≡ original_range trees at_m → i < length bs
      → IsTrue r ↔ IsSomeAnd held (LiesIn range) → IsTrue r ↔ LiesUnder trees k m i
  binding_read k m bs i at_m at_k range held r bs_is m_is k_is held_is range_is within told =
      let same : held ≡ held_range trees k.node.tree (get_or k.bindings i none_bound) =
      held_is
      ∙ ap (λ bs. held_range trees at_k.tree (get_or bs i none_bound)) bs_is
      ∙ ap (λ (x : NodeId). held_range trees x.tree (get_or k.bindings i none_bound)) k_is in
      binding_tested k m i range r (range_is ∙ ap (original_range trees) m_is) (subst (λ bs. i < length bs) bs_is within)
      (subst (λ o. IsTrue r ↔ IsSomeAnd o (LiesIn range)) same told)

pub none_so_far : (trees : List PlacedTree) (k m : FoundMatch) (i : ℕ) → ((n : ℕ) → n < i → LiesUnder trees k m n → ⊥) → (LiesUnder trees k m i → ⊥)
    → (n : ℕ) → n < i + 1 → LiesUnder trees k m n → ⊥
none_so_far trees k m i before here n less under = elim (cases_order n i) [
  | inl same ↦ here (subst (LiesUnder trees k m) same under)
  | inr (inl earlier) ↦ before n earlier under
  | inr (inr later) ↦ omega arith
]

pub none_at_all : (trees : List PlacedTree) (k m : FoundMatch) (bs : List Binding) (i : ℕ) → bs ≡ k.bindings → length bs ≤ i → ((n : ℕ) → n < i → LiesUnder trees k m n → ⊥)
    → (n : ℕ) → LiesUnder trees k m n → ⊥
none_at_all trees k m bs i is all before n under =
    before n (let within = slice_get_within k.bindings n under.binding under.is in omega (arith, ap length is)) under

-- there is such a place exactly if one is told
pub some_place : (P : ℕ → Type 0) (place : Option ℕ) → MatchOption place ((i : ℕ) → P i → ⊥) P → IsTrue (is_some place) ↔ ((i : ℕ) × P i)
some_place P None none = (λ is. (let e : false ≡ true = is in cc), λ at. absurd (none at.0 at.1))
some_place P (Some i) at = (λ is. (i, at), λ _. refl)
