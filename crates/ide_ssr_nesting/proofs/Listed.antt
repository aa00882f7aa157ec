-- The list of one holder is what stands between two places.
use Rattle.std.proofs.Common.{◌≡◌, ℕ, zero, suc, ◌+◌, ◌-◌, ◌<◌, ◌≤◌, ◌==◌, ◌&&◌, Bool, true, false, not, List, [], ◌∷◌, ◌++◌, length, map, take, drop, get_or, slice_get, filter, zip, Option, Some, None, All, refl, sym, ap, ◌∙◌, subst, arith, inl, inr}
use Rattle.std.specs.Cmp.Lexicographic.{slice_cmp}
use Rattle.std.specs.List.Sorted.{IsSortedByKey, IsPartitionedBy, IsPartitionPoint}
use Rattle.std.specs.Ordering.{nat_cmp, is_lt, is_eq, ordering_reverse, ordering_then}
use Rattle.std.specs.declared.cmp.Ordering.{Ordering}
use Rattle.std.specs.declared.cmp.Ordering.TheVariants.{Less, Equal, Greater}
use Rattle.std.proofs.lemmas.Bool.{cases_lt, false≢true, not-false, not-true}
use Rattle.std.proofs.lemmas.Cmp.{nat_list_cmp_total}
use Rattle.std.proofs.lemmas.List.{get_or-map, get_or_default, length-map}
use Rattle.std.proofs.lemmas.List.Sorted.{ranks_by, sorted_far}
use Rattle.std.proofs.lemmas.Map.Text.{is_eq-slice_cmp}
use Rattle.std.proofs.lemmas.Option.{same_Some}
use Rattle.ssr_base_trees.specs.Workspace.{trees}
use Rattle.ide_ssr_nesting.specs.declared.holders.Holder.{Holder}
use Rattle.ide_ssr_nesting.specs.declared.lists.Row.{Row}
use Rattle.ide_ssr_nesting.specs.Holding.{Kept}
use Rattle.ide_ssr_nesting.specs.Lists.{held, held_place, held_binding, holder_key, listing_key, Listing, same_holder, listed}
use Rattle.ide_ssr_nesting.specs.Private.Rows.{IsRowOf, comes_before, AreSorted}
use Rattle.ide_ssr_nesting.proofs.Listing.{places_of, row_none}

-- ** Rows of two lists of which some that stand together are taken.

rows_none : {A B : Type 0} (t : B → Bool) (xs : List A) (ys : List B) → ((k : ℕ) (d : B) → k < length ys → t (get_or ys k d) ≡ false)
    → map (λ (row : A × B). row.0) (filter (λ (row : A × B). t row.1) (zip xs ys)) ≡ []
rows_none t [] ys none = refl
rows_none t (x ∷ xs) [] none = refl
rows_none t (x ∷ xs) (y ∷ ys) none =
    let first : t y ≡ false = none 0 y (omega arith) in
    rw first (rows_none t xs ys (λ k d less. none (suc k) d (omega arith)))

rows_between : {A B : Type 0} (t : B → Bool) (xs : List A) (ys : List B) (a b : ℕ) → length ys ≡ length xs → a ≤ b → b ≤ length ys
    → ((k : ℕ) (d : B) → k < a → t (get_or ys k d) ≡ false)
    → ((k : ℕ) (d : B) → a ≤ k → k < b → t (get_or ys k d) ≡ true)
    → ((k : ℕ) (d : B) → b ≤ k → k < length ys → t (get_or ys k d) ≡ false)
    → map (λ (row : A × B). row.0) (filter (λ (row : A × B). t row.1) (zip xs ys)) ≡ take (b - a) (drop a xs)
rows_between t xs ys zero zero counted up within before at after = rows_none t xs ys (λ k d less. after k d (omega arith) less)
rows_between t [] [] a (suc b) counted up within before at after = absurd (omega arith)
rows_between t [] (y ∷ ys) a (suc b) counted up within before at after = absurd (omega arith)
rows_between t (x ∷ xs) [] a (suc b) counted up within before at after = absurd (omega arith)
rows_between t (x ∷ xs) (y ∷ ys) zero (suc b) counted up within before at after =
    let first : t y ≡ true = at 0 y (omega arith) (omega arith) in
    let rest = rows_between t xs ys 0 b (omega (arith, counted)) (omega arith) (omega (arith, within)) (λ k d less. absurd (omega arith))
    (λ k d low less. at (suc k) d (omega arith) (omega arith)) (λ k d low less. after (suc k) d (omega arith) (omega arith)) in
    let count : suc b - 0 ≡ suc (b - 0) = omega arith in
    rw (first, count) (ap (λ l. x ∷ l) rest)
rows_between t (x ∷ xs) (y ∷ ys) (suc a) (suc b) counted up within before at after =
    let first : t y ≡ false = before 0 y (omega arith) in
    let rest = rows_between t xs ys a b (omega (arith, counted)) (omega arith) (omega (arith, within)) (λ k d less. before (suc k) d (omega arith))
    (λ k d low less. at (suc k) d (omega arith) (omega arith)) (λ k d low less. after (suc k) d (omega arith) (omega arith)) in
    let count : suc b - suc a ≡ b - a = omega arith in
    rw (first, count) rest
rows_between t xs ys (suc a) zero counted up within before at after = absurd (omega arith)

-- ** Holders in order.

three_tests : (a b c : Bool) → a && b && c ≡ a && (b && (c && true))
three_tests true true true = refl
three_tests true true false = refl
three_tests true false c = refl
three_tests false b c = refl

same_by_key : (g h : Option Holder) → same_holder g h ≡ is_eq (slice_cmp nat_cmp (holder_key g) (holder_key h))
same_by_key g h =
    three_tests (held g == held h) (held_place g == held_place h) (held_binding g == held_binding h)
    ∙ sym (is_eq-slice_cmp (holder_key g) (holder_key h))

less_not_equal : (o : Ordering) → is_lt o ≡ true → is_eq o ≡ false
less_not_equal Less less = refl
less_not_equal Equal less = absurd (false≢true less)
less_not_equal Greater less = refl

greater_not_equal : (o : Ordering) → is_lt (ordering_reverse o) ≡ true → is_eq o ≡ false
greater_not_equal Less more = refl
greater_not_equal Equal more = absurd (false≢true more)
greater_not_equal Greater more = refl

neither : (o : Ordering) → is_lt o ≡ false → is_lt (ordering_reverse o) ≡ false → is_eq o ≡ true
neither Less less more = absurd (false≢true (sym less))
neither Equal less more = refl
neither Greater less more = absurd (false≢true (sym more))

reversed : (g h : Option Holder) → is_lt (ordering_reverse (slice_cmp nat_cmp (holder_key g) (holder_key h))) ≡ comes_before h g
reversed g h = ap is_lt (sym (nat_list_cmp_total.antisymm (holder_key h) (holder_key g)))

before_not_same : (g h : Option Holder) → comes_before g h ≡ true → same_holder g h ≡ false
before_not_same g h before = same_by_key g h ∙ less_not_equal (slice_cmp nat_cmp (holder_key g) (holder_key h)) before

behind_not_same : (g h : Option Holder) → comes_before h g ≡ true → same_holder g h ≡ false
behind_not_same g h behind = same_by_key g h ∙ greater_not_equal (slice_cmp nat_cmp (holder_key g) (holder_key h)) (reversed g h ∙ behind)

neither_same : (g h : Option Holder) → comes_before g h ≡ false → comes_before h g ≡ false → same_holder g h ≡ true
neither_same g h before behind = same_by_key g h ∙ neither (slice_cmp nat_cmp (holder_key g) (holder_key h)) before (reversed g h ∙ behind)

module _ (holders : List (Option Holder)) (up : IsSortedByKey holder_key (slice_cmp nat_cmp) holders) (h : Option Holder) where
  far : (i j : ℕ) (d : Option Holder) → i ≤ j → j < length holders → comes_before (get_or holders j d) (get_or holders i d) ≡ false
  far = sorted_far comes_before (ranks_by nat_list_cmp_total holder_key) holders up

  pub before_parts : IsPartitionedBy (λ g. comes_before g h) holders
  before_parts i j d low within is = decide (comes_before (get_or holders i d) h) refl
    where
      decide : (b : Bool) → comes_before (get_or holders i d) h ≡ b → comes_before (get_or holders i d) h ≡ true
      decide true here = here
      decide false here =
          absurd (false≢true (sym ((ranks_by nat_list_cmp_total holder_key).chain (get_or holders j d) (get_or holders i d) h (far i j d low within) here) ∙ is))

  -- where the last one comes before it, it has no list
  pub not_listed : (places : List ℕ) (last : ℕ) (g : Option Holder) → 1 + last ≡ length holders → g ≡ get_or holders last g → comes_before g h ≡ true
      → listed (record { places = places; holders = holders }) h ≡ []
  not_listed places last g counted read before =
      rows_none (λ g. same_holder g h) places holders
      (λ k d less. before_not_same (get_or holders k d) h
      (before_parts k last d (omega (arith, counted)) (omega (arith, counted)) (subst (λ g. comes_before g h ≡ true) (read ∙ get_or_default holders last g d (omega (arith, counted))) before)))

  pub behind_parts : IsPartitionedBy (λ g. not (comes_before h g)) holders
  behind_parts i j d low within is =
      ap not ((ranks_by nat_list_cmp_total holder_key).chain h (get_or holders j d) (get_or holders i d) (not-true (comes_before h (get_or holders j d)) is) (far i j d low within))

  module _ (start end : ℕ) (start_in : start ≤ length holders) (end_in : end ≤ length holders)
      (starts : IsPartitionPoint (λ g. comes_before g h ≡ true) (λ g. comes_before g h ≡ false) holders start)
      (ends : IsPartitionPoint (λ g. not (comes_before h g) ≡ true) (λ g. not (comes_before h g) ≡ false) holders end) where
    pub start_end : start ≤ end
    start_end = elim (cases_lt end start) [
      | inl wrong ↦ absurd (
          let g = get_or holders end None in
          let before : comes_before g h ≡ true = starts.0 end None (omega arith) wrong in
          let behind : comes_before h g ≡ true = not-false (comes_before h g) (ends.1 end None (omega arith) (omega arith)) in
          false≢true (sym ((ranks_by nat_list_cmp_total holder_key).one_way g h before) ∙ behind)
          )
      | inr right ↦ right
    ]

    pub listed_between : (places : List ℕ) → length holders ≡ length places
        → take (end - start) (drop start places) ≡ listed (record { places = places; holders = holders }) h
    listed_between places counted =
        sym (rows_between (λ g. same_holder g h) places holders start end counted start_end end_in
        (λ k d less. before_not_same (get_or holders k d) h (starts.0 k d (omega arith) less))
        (λ k d low less. neither_same (get_or holders k d) h (starts.1 k d low (omega arith))
        (not-true (comes_before h (get_or holders k d)) (ends.0 k d (omega arith) less)))
        (λ k d low less. behind_not_same (get_or holders k d) h (not-false (comes_before h (get_or holders k d)) (ends.1 k d low less))))

-- ** The holders of sorted rows are in order.

first_then : (o r s : Ordering) → (is_lt r ≡ false → is_lt s ≡ false) → is_lt (ordering_then o r) ≡ false → is_lt (ordering_then o s) ≡ false
first_then Less r s next not_less = not_less
first_then Equal r s next not_less = next not_less
first_then Greater r s next not_less = refl

-- what is not less by more numbers is not less by the first of them
first_numbers : (ms ns xs ys : List ℕ) → length ms ≡ length ns → is_lt (slice_cmp nat_cmp (ms ++ xs) (ns ++ ys)) ≡ false → is_lt (slice_cmp nat_cmp ms ns) ≡ false
first_numbers [] [] xs ys same not_less = refl
first_numbers [] (n ∷ ns) xs ys same not_less = absurd (omega arith)
first_numbers (m ∷ ms) [] xs ys same not_less = refl
first_numbers (m ∷ ms) (n ∷ ns) xs ys same not_less =
    first_then (nat_cmp m n) (slice_cmp nat_cmp (ms ++ xs) (ns ++ ys)) (slice_cmp nat_cmp ms ns) (first_numbers ms ns xs ys (omega (arith, same))) not_less

module _ (kept : Kept) (rows : List Row) (are : All (IsRowOf kept) rows) (up : IsSortedByKey (λ (row : Row). row.key) (slice_cmp nat_cmp) rows)
    (lists : Listing) (placed : lists.places ≡ places_of rows) (beside : map Some lists.holders ≡ map (slice_get kept.holders) lists.places) where
  all_counted : length lists.holders ≡ length lists.places
  all_counted =
      sym (length-map lists.holders (λ (h : Option Holder). Some h)) ∙ ap length beside ∙ length-map lists.places (slice_get kept.holders)

  rows_counted : length lists.holders ≡ length rows
  rows_counted = all_counted ∙ ap length placed ∙ length-map rows (λ (row : Row). row.place)

  holder_of : (n : ℕ) (d : Option Holder) (within : n < length rows) → (are n row_none within).holder ≡ get_or lists.holders n d
  holder_of n d within =
      let row = are n row_none within in
      let counted = all_counted in
      let all = rows_counted in
      same_Some row.holder (get_or lists.holders n d)
      (sym row.beside
      ∙ ap (slice_get kept.holders) (sym (get_or-map (λ (row : Row). row.place) rows n row_none 0 within) ∙ ap (λ l. get_or l n 0) (sym placed))
      ∙ sym (get_or-map (slice_get kept.holders) lists.places n 0 (Some d) (omega arith))
      ∙ ap (λ l. get_or l n (Some d)) (sym beside)
      ∙ get_or-map (λ (h : Option Holder). Some h) lists.holders n d (Some d) (omega arith))

  pub lists_sorted : AreSorted lists
  lists_sorted = record {
    counted = all_counted;
    in_order = λ k d low less. (
        let all = rows_counted in
        let one = are k row_none (omega arith) in
        let next = are (k + 1) row_none (omega arith) in
        let e = holder_of k d (omega arith) in
        let f = holder_of (k + 1) d (omega arith) in
        let ts = trees kept.workspace in
        rw (sym e, sym f)
        (first_numbers (holder_key next.holder) (holder_key one.holder) (listing_key ts next.match) (listing_key ts one.match) refl
        (ap is_lt (ap (λ l. slice_cmp nat_cmp l (holder_key one.holder ++ listing_key ts one.match)) (sym next.key) ∙ ap (slice_cmp nat_cmp (get_or rows (k + 1) row_none).key) (sym one.key))
        ∙ up k row_none (omega arith) (omega arith)))
        );
  }
