-- The lists of kept matches, from rows that are sorted.
use Rattle.std.proofs.Common.{◌≡◌, ◌≢◌, ℕ, zero, suc, ◌+◌, ◌<◌, ◌==◌, ◌↔◌, inl, inr, false, List, [], ◌∷◌, ◌++◌, length, map, get_or, slice_get, Option, Some, All, AllPairs, Contains, refl, sym, ap, ◌∙◌, subst, arith}
use Rattle.std.specs.Cmp.Lexicographic.{slice_cmp}
use Rattle.std.specs.List.{range_with_len}
use Rattle.std.specs.List.Sorted.{IsPermutation, IsSortedByKey}
use Rattle.std.specs.Ordering.{nat_cmp, is_lt, is_eq, ordering_reverse}
use Rattle.std.specs.declared.cmp.Ordering.{Ordering}
use Rattle.std.specs.declared.cmp.Ordering.TheVariants.{Less, Equal, Greater}
use Rattle.std.proofs.lemmas.Bool.{cases_order, false≢true}
use Rattle.std.proofs.lemmas.Bool.Decides.{Decides-eqb, nat_tests}
use Rattle.std.proofs.lemmas.Cmp.{nat_list_cmp_total}
use Rattle.std.proofs.lemmas.List.{get_or-map, map-append, length-map}
use Rattle.std.proofs.lemmas.List.FromFn.{length-range_with_len, get_or-range_with_len}
use Rattle.std.proofs.lemmas.List.Sorted.{All-permutation, Contains-permutation, IsPermutation-sym, IsPermutation-map, ranks_by, sorted_far}
use Rattle.std.proofs.lemmas.Map.Keys.{IsDistinct-IsPermutation}
use Rattle.std.proofs.lemmas.Map.Made.{AllPairs-from_IsDistinct, IsDistinct-from_AllPairs}
use Rattle.std.proofs.lemmas.Map.Text.{is_eq-slice_cmp}
use Rattle.std.proofs.lemmas.Option.{same_Some}
use Rattle.std.proofs.lemmas.Slice.Eq.{bytes_eq-Decides}
use Rattle.ssr_base_trees.specs.Workspace.{trees}
use Rattle.ide_ssr_bindings.specs.Found.{FoundMatch}
use Rattle.ide_ssr_nesting.specs.declared.holders.Holder.{Holder}
use Rattle.ide_ssr_nesting.specs.declared.lists.Row.{Row}
use Rattle.ide_ssr_nesting.specs.Kept.{ComesBefore}
use Rattle.ide_ssr_nesting.specs.Holding.{Kept, IsKept}
use Rattle.ide_ssr_nesting.specs.Lists.{lists_key, Listing, AreLists}
use Rattle.ide_ssr_nesting.specs.Private.Rows.{IsRowOf}
use Rattle.ssr_syntax_tree.proofs.Lists.{pairs_at}
use Rattle.ide_ssr_nesting.proofs.Nodes.{same_numbers}
use Rattle.ide_ssr_nesting.proofs.OneKept.{not_before_same}

-- ** The rows, one after another.

pub range_more : (a n : ℕ) → range_with_len a (suc n) ≡ range_with_len a n ++ (a + n) ∷ []
range_more a zero = ap (λ x. x ∷ []) (let here : a ≡ a + 0 = omega arith in here)
range_more a (suc n) =
    ap (λ l. a ∷ l) (range_more (a + 1) n ∙ ap (λ x. range_with_len (a + 1) n ++ x ∷ []) (let next : a + 1 + n ≡ a + suc n = omega arith in next))

abbrev pub places_of : List Row → List ℕ
places_of rows = map (λ row. row.place) rows

pub places_more : (rows new : List Row) (row : Row) (i : ℕ) → places_of rows ≡ range_with_len 0 i → new ≡ rows ++ row ∷ [] → row.place ≡ i
    → places_of new ≡ range_with_len 0 (i + 1)
places_more rows new row i so_far new_is at =
    ap places_of new_is
    ∙ map-append (λ (row : Row). row.place) rows (row ∷ [])
    ∙ ap (λ l. l ++ row.place ∷ []) so_far
    ∙ ap (λ n. range_with_len 0 i ++ n ∷ []) (let last : row.place ≡ 0 + i = omega arith in last)
    ∙ sym (range_more 0 i)
    ∙ ap (range_with_len 0) (let next : suc i ≡ i + 1 = omega arith in next)

-- ** All places, each once.

pub in_range : (n m : ℕ) → Contains (range_with_len 0 n) m ↔ (m < n)
in_range n m = (
  (λ at. (
      let within = at.1 in
      let count = length-range_with_len 0 n in
      let is = get_or-range_with_len 0 n at.0 m (omega arith) in
      let same = at.2 in omega arith
      )),
  (λ less. (
    m,
    (let count = length-range_with_len 0 n in omega arith),
    get_or-range_with_len 0 n m m less ∙ (let same : 0 + m ≡ m = omega arith in same),
  )),
)

range_distinct : (n : ℕ) → AllPairs (λ x y. x ≢ y) (range_with_len 0 n)
range_distinct n i j d less within same =
    let count = length-range_with_len 0 n in
    let first = get_or-range_with_len 0 n i d (omega arith) in
    let last = get_or-range_with_len 0 n j d (omega arith) in
    omega arith

module _ (n : ℕ) (rows sorted : List Row) (all : places_of rows ≡ range_with_len 0 n) (moved : IsPermutation rows sorted) where
  places_moved : IsPermutation (range_with_len 0 n) (places_of sorted)
  places_moved = subst (λ l. IsPermutation l (places_of sorted)) all (IsPermutation-map (λ (row : Row). row.place) rows sorted moved)

  pub each_place : (m : ℕ) → Contains (places_of sorted) m ↔ (m < n)
  each_place m = (
    (λ at. (in_range n m).0 (Contains-permutation (places_of sorted) (range_with_len 0 n) m (IsPermutation-sym (range_with_len 0 n) (places_of sorted) places_moved) at)),
    (λ less. Contains-permutation (range_with_len 0 n) (places_of sorted) m places_moved ((in_range n m).1 less)),
  )

  pub places_differ : AllPairs (λ x y. x ≢ y) (places_of sorted)
  places_differ =
      AllPairs-from_IsDistinct Decides-eqb (places_of sorted)
      (IsDistinct-IsPermutation ◌==◌ flips (range_with_len 0 n) (places_of sorted) places_moved
      (IsDistinct-from_AllPairs Decides-eqb (range_with_len 0 n) (range_distinct n)))
    where
      flips : (x y : ℕ) → (x == y) ≡ (y == x)
      flips x y = grind (arith, nat_tests)

-- ** In order.

abbrev pub row_none : Row
row_none = record { key = []; place = 0 }

-- keys that compare as equal are the same
pub same_keys : (xs ys : List ℕ) → slice_cmp nat_cmp xs ys ≡ Equal → xs ≡ ys
same_keys xs ys is = (bytes_eq-Decides xs ys).0 (sym (is_eq-slice_cmp xs ys) ∙ ap is_eq is)

module _ (kept : Kept) (known : IsKept kept) where
  -- rows of two places have two keys
  pub keys_differ : (r s : Row) → IsRowOf kept r → IsRowOf kept s → r.key ≡ s.key → r.place ≡ s.place
  keys_differ r s one other same =
      let ts = trees kept.workspace in
      let e = sym one.key ∙ same ∙ other.key in
      let rule : one.match.rule ≡ other.match.rule = ap (λ l. get_or l 6 0) e in
      let node = same_numbers one.match.node other.match.node (ap (λ l. get_or l 7 0) e) (ap (λ l. get_or l 8 0) e) in
      elim (cases_order r.place s.place) [
        | inl at ↦ at
        | inr (inl less) ↦ absurd (not_before_same ts known.built.grown one.match other.match (node, rule)
            (pairs_at (ComesBefore ts) kept.matches r.place s.place one.match other.match known.held.in_order less one.stands other.stands))
        | inr (inr more) ↦ absurd (not_before_same ts known.built.grown other.match one.match (sym node, sym rule)
            (pairs_at (ComesBefore ts) kept.matches s.place r.place other.match one.match known.held.in_order more other.stands one.stands))
      ]

  less_of : (o : Ordering) → (o ≡ Equal → ⊥) → (o ≡ Greater → ⊥) → o ≡ Less
  less_of Less equal greater = refl
  less_of Equal equal greater = absurd (equal refl)
  less_of Greater equal greater = absurd (greater refl)

  rows_rise : (r s : Row) → IsRowOf kept r → IsRowOf kept s → r.place ≢ s.place → is_lt (slice_cmp nat_cmp s.key r.key) ≡ false
      → slice_cmp nat_cmp r.key s.key ≡ Less
  rows_rise r s one other differ not_less =
      less_of (slice_cmp nat_cmp r.key s.key)
      (λ equal. differ (keys_differ r s one other (same_keys r.key s.key equal)))
      (λ greater. false≢true (sym not_less ∙ ap is_lt (nat_list_cmp_total.antisymm s.key r.key ∙ ap ordering_reverse greater)))

  module _ (rows sorted : List Row) (are : All (IsRowOf kept) rows) (all : places_of rows ≡ range_with_len 0 (length kept.matches))
      (moved : IsPermutation rows sorted) (up : IsSortedByKey (λ (row : Row). row.key) (slice_cmp nat_cmp) sorted) where
    pub sorted_rows : All (IsRowOf kept) sorted
    sorted_rows = All-permutation (IsRowOf kept) rows sorted moved are

    key_of : (i d : ℕ) (within : i < length sorted) (k : FoundMatch) (g : Option Holder) → slice_get kept.matches (get_or (places_of sorted) i d) ≡ Some k
        → slice_get kept.holders (get_or (places_of sorted) i d) ≡ Some g → (get_or sorted i row_none).key ≡ lists_key (trees kept.workspace) k g
    key_of i d within k g k_is g_is =
        let ts = trees kept.workspace in
        let one = sorted_rows i row_none within in
        let at = get_or-map (λ (row : Row). row.place) sorted i row_none d within in
        let match = same_Some one.match k (sym one.stands ∙ ap (slice_get kept.matches) (sym at) ∙ k_is) in
        let holder = same_Some one.holder g (sym one.beside ∙ ap (slice_get kept.holders) (sym at) ∙ g_is) in
        one.key ∙ ap (λ (m : FoundMatch). lists_key ts m one.holder) match ∙ ap (λ (h : Option Holder). lists_key ts k h) holder

    rising : (i j d : ℕ) → i < j → j < length sorted
        → slice_cmp nat_cmp (get_or sorted i row_none).key (get_or sorted j row_none).key ≡ Less
    rising i j d less within =
        let first = get_or-map (λ (row : Row). row.place) sorted i row_none d (omega arith) in
        let last = get_or-map (λ (row : Row). row.place) sorted j row_none d within in
        rows_rise (get_or sorted i row_none) (get_or sorted j row_none) (sorted_rows i row_none (omega arith)) (sorted_rows j row_none within)
        (λ same. places_differ (length kept.matches) rows sorted all moved i j d less (let count = length-map sorted (λ (row : Row). row.place) in omega arith)
        (first ∙ same ∙ sym last))
        (sorted_far (λ (x : Row) (y : Row). is_lt (slice_cmp nat_cmp x.key y.key)) (ranks_by nat_list_cmp_total (λ (row : Row). row.key)) sorted up i j row_none (omega arith) within)

    pub lists_made : (lists : Listing) → lists.places ≡ places_of sorted → map Some lists.holders ≡ map (slice_get kept.holders) lists.places → AreLists kept lists
    lists_made lists is beside = record {
      each = λ n. subst (λ l. Contains l n ↔ (n < length kept.matches)) (sym is) (each_place (length kept.matches) rows sorted all moved n);
      beside = beside;
      in_order =
          subst
          (AllPairs (λ i j. (k m : FoundMatch) (g h : Option Holder)
          → slice_get kept.matches i ≡ Some k → slice_get kept.holders i ≡ Some g → slice_get kept.matches j ≡ Some m → slice_get kept.holders j ≡ Some h
          → slice_cmp nat_cmp (lists_key (trees kept.workspace) k g) (lists_key (trees kept.workspace) m h) ≡ Less)) (sym is)
          (λ i j d less within k m g h k_is g_is m_is h_is.
          let count = length-map sorted (λ (row : Row). row.place) in
          let in_sorted : j < length sorted = omega arith in
          ap (λ xs. slice_cmp nat_cmp xs (lists_key (trees kept.workspace) m h)) (sym (key_of i d (omega arith) k g k_is g_is))
          ∙ ap (slice_cmp nat_cmp (get_or sorted i row_none).key) (sym (key_of j d in_sorted m h m_is h_is))
          ∙ rising i j d less in_sorted);
    }
