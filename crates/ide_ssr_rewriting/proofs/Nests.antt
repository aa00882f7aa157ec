-- What kept matches and their lists are for what is written for them.
use Rattle.std.proofs.Common.{◌≡◌, ℕ, ◌<◌, true, List, [], ◌∷◌, All, get_or, length, Option, Some, None, Ordering, Less, Equal, refl, sym, ◌∙◌, ap, subst, arith}
use Rattle.std.specs.Prelude.{Contains, slice_get, unwrap_or}
use Rattle.std.specs.Cmp.Lexicographic.{slice_cmp}
use Rattle.std.specs.Option.{IsSomeAnd, option_map_or}
use Rattle.std.specs.Ordering.{is_le, nat_cmp, ordering_then}
use Rattle.std.proofs.lemmas.Cmp.{nat_list_cmp_total, tied_itself}
use Rattle.std.proofs.lemmas.List.Elements.{All-contains_itself, All-weaker}
use Rattle.std.proofs.lemmas.Option.{same_Some, slice_get-get_or, slice_get_within}
use Rattle.ssr_base_trees.specs.Laws.{LiesIn}
use Rattle.ssr_base_trees.specs.Workspace.{FileSpan, PlacedTree, node_id, original_range, trees}
use Rattle.ide_ssr_bindings.specs.declared.bindings.Binding.{Binding}
use Rattle.ide_ssr_bindings.specs.Found.{FoundMatch, held_range}
use Rattle.ide_ssr_nesting.specs.declared.holders.Holder.{Holder}
use Rattle.ide_ssr_nesting.specs.Kept.{LiesUnder}
use Rattle.ide_ssr_nesting.specs.Holding.{IsHeldBy, IsKept, Kept}
use Rattle.ide_ssr_nesting.specs.Lists.{AreLists, Listing, listed, listing_key, range_of}
use Rattle.ide_ssr_nesting.proofs.Shared.{held_behind, lists_in_order, lists_what_is_held}
use Rattle.ide_ssr_rewriting.specs.Private.Clashes.{range_le}
use Rattle.ide_ssr_rewriting.specs.Edits.{nowhere, range_at}
use Rattle.ide_ssr_rewriting.specs.Private.Nest.{IsList, IsNest, under}
use Rattle.ide_ssr_rewriting.proofs.FirstClashes.{then_le}

-- ** Lists.

key_le : (a b c d e f : ℕ) (xs ys : List ℕ) → slice_cmp nat_cmp (a ∷ (b ∷ (c ∷ xs))) (d ∷ (e ∷ (f ∷ ys))) ≡ Less
    → is_le (slice_cmp nat_cmp (a ∷ (b ∷ (c ∷ []))) (d ∷ (e ∷ (f ∷ [])))) ≡ true
key_le a b c d e f xs ys less =
    let ends : Ordering = ordering_then (nat_cmp c f) (slice_cmp nat_cmp xs ys) in
    let starts : Ordering = ordering_then (nat_cmp b e) ends in
    then_le (nat_cmp a d) starts _
    (then_le (nat_cmp b e) ends _ (then_le (nat_cmp c f) (slice_cmp nat_cmp xs ys) Equal (λ _. refl)))
    (ap is_le less)

in_order : (r s : FileSpan) (xs ys : List ℕ)
    → slice_cmp nat_cmp (r.file ∷ (r.span.start ∷ (r.span.end ∷ xs))) (s.file ∷ (s.span.start ∷ (s.span.end ∷ ys))) ≡ Less → range_le r s ≡ true
unfolding range_le
in_order r s xs ys less = key_le r.file r.span.start r.span.end s.file s.span.start s.span.end xs ys less

range_is : (kept : Kept) (n : ℕ) (m : FoundMatch) → slice_get kept.matches n ≡ Some m → range_at kept n ≡ range_of (trees kept.workspace) m
range_is kept n m at = ap (λ o. option_map_or (range_of (trees kept.workspace)) o nowhere) at

is_list : (kept : Kept) (lists : Listing) → IsKept kept → AreLists kept lists → (holder : Option Holder) → IsList kept holder (listed lists holder)
is_list kept lists is are holder = record {
  within = within;
  held = held;
  once = λ i j d lt within_j same.
      let less = keys i j d lt within_j in
      let k = at i d (omega arith) in
      let m = at j d within_j in
      let one : k.0 ≡ m.0 = same_Some k.0 m.0 (sym k.1 ∙ (ap (slice_get kept.matches) same ∙ m.1)) in
      let wrong : Equal ≡ Less =
      sym (tied_itself nat_list_cmp_total (listing_key ts k.0)) ∙ (ap (λ (m : FoundMatch). slice_cmp nat_cmp (listing_key ts k.0) (listing_key ts m)) one ∙ less k.0 m.0 k.1 m.1) in
      cc;
  ordered = λ i j d lt within_j.
      let k = at i d (omega arith) in
      let m = at j d within_j in
      rw (range_is kept (get_or places i d) k.0 k.1, range_is kept (get_or places j d) m.0 m.1)
      (in_order (range_of ts k.0) (range_of ts m.0) (rest_of k.0) (rest_of m.0) (keys i j d lt within_j k.0 m.0 k.1 m.1));
}
  where
    ts : List PlacedTree
    ts = trees kept.workspace

    places : List ℕ
    places = listed lists holder

    held : All (λ n. slice_get kept.holders n ≡ Some holder) places
    held = All-weaker (Contains places) (λ n. slice_get kept.holders n ≡ Some holder) (λ n h. (lists_what_is_held kept is lists holder n are).0 h) places (All-contains_itself places)

    within : All (λ n. n < length kept.matches) places
    within = All-weaker (λ n. slice_get kept.holders n ≡ Some holder) (λ n. n < length kept.matches)
        (λ n h. let lt = slice_get_within kept.holders n holder h in let counted = is.held.counted in omega arith) places held

    at : (i d : ℕ) → i < length places → (m : FoundMatch) × (slice_get kept.matches (get_or places i d) ≡ Some m)
    at i d lt = (get_or kept.matches (get_or places i d) nobody, slice_get-get_or kept.matches (get_or places i d) nobody (within i d lt))
      where
        nobody : FoundMatch
        nobody = record { rule = 0; node = node_id 0 0; bindings = [] }

    -- what follows on the range among the numbers that are compared
    rest_of : FoundMatch → List ℕ
    rest_of m = m.rule ∷ (m.node.tree ∷ (m.node.node.0 ∷ []))

    keys : (i j d : ℕ) → i < j → j < length places → (k m : FoundMatch) → slice_get kept.matches (get_or places i d) ≡ Some k → slice_get kept.matches (get_or places j d) ≡ Some m
        → slice_cmp nat_cmp (listing_key ts k) (listing_key ts m) ≡ Less
    keys i j d lt within_j = lists_in_order kept lists holder are i j d lt within_j

-- ** What a placeholder holds.

held_in : (kept : Kept) (lists : Listing) → IsKept kept → AreLists kept lists → (n i j : ℕ) (m : FoundMatch) (binding : Binding) (range : FileSpan)
    → slice_get kept.matches n ≡ Some m → slice_get m.bindings i ≡ Some binding → Contains (under lists n i) j
    → held_range (trees kept.workspace) m.node.tree binding ≡ Some range → LiesIn (range_at kept j) range
held_in kept lists is are n i j m binding range at bound here ranged =
    let holder : Holder = record { place = n; binding = i } in
    let beside = (lists_what_is_held kept is lists (Some holder) j are).0 here in
    let lt : j < length kept.matches = let lt = slice_get_within kept.holders j (Some holder) beside in let counted = is.held.counted in omega arith in
    let inner : FoundMatch = get_or kept.matches j m in
    let stands = slice_get-get_or kept.matches j m lt in
    let held : IsHeldBy (trees kept.workspace) kept.matches inner holder = is.held.held j inner (Some holder) stands beside in
    let over : held.nearest ≡ m = same_Some held.nearest m (sym held.stands ∙ at) in
    let lies : LiesUnder (trees kept.workspace) m inner i = subst (λ (k : FoundMatch). LiesUnder (trees kept.workspace) k inner i) over held.under in
    let same : lies.binding ≡ binding = same_Some lies.binding binding (sym lies.is ∙ bound) in
    rw (range_is kept j inner stands)
    (inside (original_range (trees kept.workspace) inner.node)
    (subst (λ o. IsSomeAnd (original_range (trees kept.workspace) inner.node) (λ i. IsSomeAnd o (λ o. LiesIn i o)))
    (ap (held_range (trees kept.workspace) m.node.tree) same ∙ ranged) lies.within))
  where
    inside : (o : Option FileSpan) → IsSomeAnd o (λ i. LiesIn i range) → LiesIn (unwrap_or o nowhere) range
    inside None h = absurd h
    inside (Some inner) h = h

-- ** All of it.

pub is_nest : (kept : Kept) (lists : Listing) → IsKept kept → AreLists kept lists → IsNest kept lists
is_nest kept lists is are = record {
  built = is.built;
  matches = is.held.each;
  lists = is_list kept lists is are;
  before = λ n i j h. (held_behind kept is j (record { place = n; binding = i }) ((lists_what_is_held kept is lists (Some (record { place = n; binding = i })) j are).0 h)).0;
  within = held_in kept lists is are;
}
