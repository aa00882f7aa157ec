-- The bindings of a match by where they begin, once they are sorted.
use Rattle.std.proofs.Common.{◌≡◌, ◌≢◌, ℕ, ◌+◌, ◌<◌, ◌==◌, ◌⊎◌, inl, inr, Bool, false, List, [], ◌∷◌, ◌++◌, length, map, get_or, slice_get, Some, All, Contains, refl, sym, ap, ◌∙◌, subst, arith, lt-ltb}
use Rattle.std.specs.Option.{option_map, option_and_then}
use Rattle.std.specs.Cmp.Lexicographic.{slice_cmp}
use Rattle.std.specs.List.{IsDistinct}
use Rattle.std.specs.List.Sorted.{IsPermutation, IsSortedByKey}
use Rattle.std.specs.Ordering.{nat_cmp, is_lt}
use Rattle.std.specs.declared.cmp.Ordering.TheVariants.{Less}
use Rattle.std.proofs.Math.ListN.{get_or-append}
use Rattle.std.proofs.Math.Seq.{get_or-append_seam}
use Rattle.std.proofs.lemmas.Bool.{cases_lt, cases_order, false≢true}
use Rattle.std.proofs.lemmas.Bool.Decides.{nat_tests}
use Rattle.std.proofs.lemmas.Cmp.{nat_list_cmp_total}
use Rattle.std.proofs.lemmas.List.{get_or-map, length-map, length-append}
use Rattle.std.proofs.lemmas.List.Elements.{All-push, Contains-get_or}
use Rattle.std.proofs.lemmas.List.Sorted.{All-permutation, Contains-permutation, ranks_by, sorted_far}
use Rattle.std.proofs.lemmas.Map.Keys.{apart_from_distinct, IsDistinct-from_apart, IsDistinct-IsPermutation}
use Rattle.std.proofs.lemmas.Option.{same_Some, slice_get-get_or}
use Rattle.ssr_base_trees.specs.declared.ids.NodeId.{NodeId}
use Rattle.ssr_base_trees.specs.Workspace.{Workspace, trees}
use Rattle.ide_ssr_bindings.specs.declared.bindings.Binding.{Binding}
use Rattle.ide_ssr_bindings.specs.Found.{FoundMatch, held_range}
use Rattle.ide_ssr.specs.declared.starts.Start.{Start}
use Rattle.ide_ssr.specs.Starts.{start_at, AreByStart}
use Rattle.ide_ssr.specs.Private.Starts.{IsStartOf, AreStarts, start_key}

no_start : Start
no_start = record { at = 0; place = 0 }

abbrev pub places_of : List Start → List ℕ
places_of starts = map (λ start. start.place) starts

-- ** The starts, one after another.

pub starts_more : (w : Workspace) (m : FoundMatch) (n : ℕ) (old new : List Start) (at : ℕ) → AreStarts w m n old → start_at w m n ≡ Some at
    → new ≡ old ++ record { at = at; place = n } ∷ [] → AreStarts w m (n + 1) new
starts_more w m n old new at so_far is more =
    let start : Start = record { at = at; place = n } in
    subst (AreStarts w m (n + 1)) (sym more)
    (record {
      counted = omega (arith, length-append old (start ∷ []), so_far.counted);
      each = All-push (IsStartOf w m) old start so_far.each is;
      places = λ i d lt.
          elim (cases_lt i n) [
            | inl before ↦ ap (λ (s : Start). s.place) (get_or-append old (start ∷ []) d i (omega (arith, so_far.counted))) ∙ so_far.places i d before
            | inr behind ↦
                let here : i ≡ length old = omega (arith, so_far.counted) in
                ap (λ (i : ℕ). (get_or (old ++ start ∷ []) i d).place) here
                ∙ ap (λ (s : Start). s.place) (get_or-append_seam old start [] d)
                ∙ omega (arith, so_far.counted)
          ];
    })

-- where the binding begins that stands at a place
pub start_is : (w : Workspace) (m : FoundMatch) (n at : ℕ) (node : NodeId) (bindings : List Binding) (d : Binding) → node ≡ m.node → bindings ≡ m.bindings
    → n < length bindings → option_map (λ range. range.span.start) (held_range (trees w) node.tree (get_or bindings n d)) ≡ Some at
    → start_at w m n ≡ Some at
start_is w m n at node bindings d same_node same within is =
    let b = get_or bindings n d in
    let found : slice_get m.bindings n ≡ Some b = ap (λ bs. slice_get bs n) (sym same) ∙ slice_get-get_or bindings n d within in
    ap (option_and_then (λ binding. option_map (λ range. range.span.start) (held_range (trees w) m.node.tree binding))) found
    ∙ ap (λ (x : NodeId). option_map (λ range. range.span.start) (held_range (trees w) x.tree b)) (sym same_node)
    ∙ is

-- ** In order.

before_first : (a b c d : ℕ) → a < b → slice_cmp nat_cmp (a ∷ c ∷ []) (b ∷ d ∷ []) ≡ Less
before_first a b c d less = rw (lt-ltb a b less) refl

before_next : (a b c d : ℕ) → a ≡ b → c < d → slice_cmp nat_cmp (a ∷ c ∷ []) (b ∷ d ∷ []) ≡ Less
before_next a b c d same less = grind (arith, nat_tests)

not_behind : (s t : Start) → is_lt (slice_cmp nat_cmp (start_key t) (start_key s)) ≡ false → s.place ≢ t.place
    → (s.at < t.at) ⊎ ((s.at ≡ t.at) × (s.place < t.place))
not_behind s t rising differ =
    elim (cases_order s.at t.at) [
      | inl at ↦
          elim (cases_order s.place t.place) [
            | inl same ↦ absurd (differ same)
            | inr (inl less) ↦ inr (at, less)
            | inr (inr more) ↦ absurd (false≢true (sym rising ∙ ap is_lt (before_next t.at s.at t.place s.place (sym at) more)))
          ]
      | inr (inl less) ↦ inl less
      | inr (inr more) ↦ absurd (false≢true (sym rising ∙ ap is_lt (before_first t.at s.at t.place s.place more)))
    ]

same_place : Start → Start → Bool
same_place s t = s.place == t.place

module _ (w : Workspace) (m : FoundMatch) (starts sorted : List Start) (are : AreStarts w m (length m.bindings) starts) (moved : IsPermutation starts sorted)
    (up : IsSortedByKey start_key (slice_cmp nat_cmp) sorted) where
  starts_differ : IsDistinct same_place starts
  unfolding same_place
  starts_differ =
      IsDistinct-from_apart same_place starts
      (λ i j d lt within.
      let first = are.places i d (omega (arith, are.counted)) in
      let last = are.places j d (omega (arith, are.counted)) in
      grind (arith, nat_tests))

  flips : (s t : Start) → same_place s t ≡ same_place t s
  unfolding same_place
  flips s t = grind (arith, nat_tests)

  sorted_differ : (i j : ℕ) → i < j → j < length sorted → (get_or sorted i no_start).place ≢ (get_or sorted j no_start).place
  unfolding same_place
  sorted_differ i j lt within same =
      let apart : same_place (get_or sorted i no_start) (get_or sorted j no_start) ≡ false =
      apart_from_distinct same_place sorted i j no_start (IsDistinct-IsPermutation same_place flips starts sorted moved starts_differ) lt within in
      grind (arith, nat_tests)

  starts_sorted : All (IsStartOf w m) sorted
  starts_sorted = All-permutation (IsStartOf w m) starts sorted moved are.each

  places_within : All (λ s. s.place < length m.bindings) sorted
  places_within =
      All-permutation (λ s. s.place < length m.bindings) starts sorted moved
      (λ i d within. omega (arith, are.places i d (omega (arith, are.counted)), are.counted))

  place_at : (i d : ℕ) → i < length sorted → get_or (places_of sorted) i d ≡ (get_or sorted i no_start).place
  place_at i d within = get_or-map (λ (s : Start). s.place) sorted i no_start d within

  place_of : (s : Start) → Contains sorted s → Contains (places_of sorted) s.place
  place_of s at = (
    at.0,
    omega (arith, length-map sorted (λ (s : Start). s.place), at.1),
    get_or-map (λ (s : Start). s.place) sorted at.0 s s.place at.1 ∙ ap (λ (s : Start). s.place) at.2,
  )

  pub sorted_by_start : (order : List ℕ) → order ≡ places_of sorted → AreByStart w m order
  sorted_by_start order is =
      subst (AreByStart w m) (sym is)
      (record {
        each = λ i. (
          (λ at.
              let within : at.0 < length sorted = omega (arith, length-map sorted (λ (s : Start). s.place), at.1) in
              let read = place_at at.0 i within in
              let own = at.2 in
              let few = places_within at.0 no_start within in
              omega arith),
          (λ less.
              let start = get_or starts i no_start in
              subst (Contains (places_of sorted)) (are.places i no_start less)
              (place_of start (Contains-permutation starts sorted start moved (Contains-get_or starts i no_start (omega (arith, are.counted)))))),
        );
        in_order = λ i j d lt within a b a_is b_is.
            let last_in : j < length sorted = omega (arith, length-map sorted (λ (s : Start). s.place)) in
            let first_in : i < length sorted = omega arith in
            let s = get_or sorted i no_start in
            let t = get_or sorted j no_start in
            let first = place_at i d first_in in
            let last = place_at j d last_in in
            let a_at : a ≡ s.at = same_Some a s.at (sym a_is ∙ ap (start_at w m) first ∙ starts_sorted i no_start first_in) in
            let b_at : b ≡ t.at = same_Some b t.at (sym b_is ∙ ap (start_at w m) last ∙ starts_sorted j no_start last_in) in
            let rising = sorted_far (λ (x : Start) (y : Start). is_lt (slice_cmp nat_cmp (start_key x) (start_key y))) (ranks_by nat_list_cmp_total start_key) sorted up i j no_start (omega arith) last_in in
            elim (not_behind s t rising (sorted_differ i j lt last_in)) [
              | inl less ↦ inl (omega arith)
              | inr same ↦ inr (omega (arith, same.0), omega (arith, same.1))
            ];
      })
