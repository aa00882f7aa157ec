-- The shortest scope, by the list of all and by the lists of single trees.
use Rattle.std.proofs.Common.{◌≡◌, ℕ, ◌+◌, ◌≤◌, ◌==◌, ◌&&◌, List, [], ◌∷◌, ◌++◌, length, Bool, true, false, true≢false, Option, Some, None, refl, sym, ap, subst, ◌∙◌, inl, inr, arith}
use Rattle.std.proofs.lemmas.Bool.{and_parts, cases_eq, leb-true, leb-false, le-leb}
use Rattle.std.proofs.lemmas.List.Sorted.{Contains-permutation, IsPermutation-sym}
use Rattle.std.specs.Prelude.{Contains, filter, if◌then◌else◌, nat_le, IsPermutation}
use Rattle.std.specs.List.{enumerate_from}
use Rattle.std.specs.Option.{option_map}
use Rattle.ssr_facts_rows.specs.declared.places.PlaceRow.{PlaceRow}
use Rattle.ssr_facts.specs.declared.scopes.Scope.{Scope}
use Rattle.ssr_facts.specs.Scopes.{holds, size_of, shorter, shortest, scope_of}
use Rattle.ssr_facts.specs.Private.Scopes.{scopes_in, AsGood, IsAround, IsBest, id_of}
use Rattle.ssr_facts.proofs.Best.{as_itself, good_good}
use Rattle.ssr_syntax_tree.proofs.Lists.{at_front, at_back, front_or_back}
use Rattle.ssr_facts.proofs.Lists.{none_among}

-- a numbered row as a scope of its tree
abbrev pub numbered : ℕ × PlaceRow → Scope
numbered row = record { start = row.1.start; end = row.1.end; number = row.0 }

-- one row more, behind the others
pub scopes_in-push : (t n : ℕ) (rows : List PlaceRow) (row : PlaceRow)
    → scopes_in t n (rows ++ row ∷ []) ≡ scopes_in t n rows ++ (if row.tree == t then numbered (n + length rows, row) ∷ [] else [])
scopes_in-push t n [] row =
    let same : n ≡ n + length {A = PlaceRow} [] = omega arith in
    ap (λ (k : ℕ). if row.tree == t then numbered (k, row) ∷ [] else []) same
scopes_in-push t n (first ∷ rows) row =
    let same : n + 1 + length rows ≡ n + length (first ∷ rows) = omega arith in
    let later =
    scopes_in-push t (n + 1) rows row
    ∙ ap (λ (k : ℕ). scopes_in t (n + 1) rows ++ (if row.tree == t then numbered (k, row) ∷ [] else [])) same in
    elim (first.tree == t) as (λ b. (if b then numbered (n, first) ∷ scopes_in t (n + 1) (rows ++ row ∷ []) else scopes_in t (n + 1) (rows ++ row ∷ []))
    ≡ (if b then numbered (n, first) ∷ scopes_in t (n + 1) rows else scopes_in t (n + 1) rows) ++ (if row.tree == t then numbered (n + length (first ∷ rows), row) ∷ [] else [])) [
      | true ↦ ap (λ xs. numbered (n, first) ∷ xs) later
      | false ↦ later
    ]

-- rows are numbered upwards
at_least : (t n : ℕ) (rows : List PlaceRow) (y : Scope) → Contains (scopes_in t n rows) y → n ≤ y.number
at_least t n [] y among = absurd (none_among y among)
at_least t n (row ∷ rows) y among = by (row.tree == t) among (at_least t (n + 1) rows y)
  where
    by : (b : Bool) → Contains (if b then numbered (n, row) ∷ scopes_in t (n + 1) rows else scopes_in t (n + 1) rows) y
        → (Contains (scopes_in t (n + 1) rows) y → n + 1 ≤ y.number) → n ≤ y.number
    by false among later = omega (arith, later among)
    by true among later =
        elim (front_or_back (numbered (n, row)) y (scopes_in t (n + 1) rows) among) [
          | inl first ↦ omega (arith, ap (λ (u : Scope). u.number) first)
          | inr behind ↦ omega (arith, later behind)
        ]

-- ** The best of one scope more.

module _ (start end : ℕ) (x : Scope) (xs : List Scope) where
  -- one that doesn't hold the span
  best_passed : (best : Option Scope) → (IsAround start end x → ⊥) → IsBest start end xs best → IsBest start end (x ∷ xs) best
  best_passed None not none = λ y among holds. elim (front_or_back x y xs among) [
    | inl first ↦ not (subst (IsAround start end) (sym first) holds)
    | inr behind ↦ none y behind holds
  ]
  best_passed (Some v) not is = (
    at_back x v xs is.0,
    is.1,
    λ y among holds. elim (front_or_back x y xs among) [
      | inl first ↦ absurd (not (subst (IsAround start end) (sym first) holds))
      | inr behind ↦ is.2 y behind holds
    ],
  )

  -- one that holds it, where no other one does
  best_alone : IsAround start end x → IsBest start end xs None → IsBest start end (x ∷ xs) (Some x)
  best_alone here none = (
    at_front x xs,
    here,
    λ y among holds. elim (front_or_back x y xs among) [
      | inl first ↦ subst (AsGood x) first (as_itself x)
      | inr behind ↦ absurd (none y behind holds)
    ],
  )

  -- or where it is as good as the best one
  best_first : (v : Scope) → IsAround start end x → AsGood x v → IsBest start end xs (Some v) → IsBest start end (x ∷ xs) (Some x)
  best_first v here good is = (
    at_front x xs,
    here,
    λ y among holds. elim (front_or_back x y xs among) [
      | inl first ↦ subst (AsGood x) first (as_itself x)
      | inr behind ↦ good_good x v y good (is.2 y behind holds)
    ],
  )

  -- or where that one is as good as it
  best_later : (v : Scope) → AsGood v x → IsBest start end xs (Some v) → IsBest start end (x ∷ xs) (Some v)
  best_later v good is = (
    at_back x v xs is.0,
    is.1,
    λ y among holds. elim (front_or_back x y xs among) [
      | inl first ↦ subst (AsGood v) first good
      | inr behind ↦ is.2 y behind holds
    ],
  )

-- ** The shortest of all rows is the best one of its tree.

module _ (place : PlaceRow) where
  -- the shortest row that holds the place, of those from a number on
  abbrev pub shortest_from : ℕ → List PlaceRow → Option (ℕ × PlaceRow)
  shortest_from n rows = shortest (filter (λ scope. holds scope.1 place) (enumerate_from n rows))

  -- whether the row is of the tree, and whether it holds the span
  step : (n : ℕ) (row : PlaceRow) (xs : List Scope) (later : Option (ℕ × PlaceRow)) (tree within : Bool) → ((y : Scope) → Contains xs y → n + 1 ≤ y.number)
      → (within ≡ true → IsAround place.start place.end (numbered (n, row))) → (within ≡ false → IsAround place.start place.end (numbered (n, row)) → ⊥)
      → IsBest place.start place.end xs (option_map numbered later)
      → IsBest place.start place.end (if tree then numbered (n, row) ∷ xs else xs) (option_map numbered (if tree && within then shorter (n, row) later else later))
  step n row xs later false within behind here elsewhere is = is
  step n row xs later true false behind here elsewhere is = best_passed place.start place.end (numbered (n, row)) xs (option_map numbered later) (elsewhere refl) is
  step n row xs None true true behind here elsewhere is = best_alone place.start place.end (numbered (n, row)) xs (here refl) is
  step n row xs (Some v) true true behind here elsewhere is = by (nat_le (size_of v.1) (size_of row)) refl
    where
      by : (b : Bool) → nat_le (size_of v.1) (size_of row) ≡ b
          → IsBest place.start place.end (numbered (n, row) ∷ xs) (Some (numbered (if b then v else (n, row))))
      by true le =
          best_later place.start place.end (numbered (n, row)) xs (numbered v)
          (elim (cases_eq (size_of v.1) (size_of row)) [
            | inl same ↦ inr (same, omega (arith, behind (numbered v) is.0))
            | inr other ↦ inl (omega (arith, leb-true (size_of v.1) (size_of row) le, other))
          ])
          is
      by false gt =
          best_first place.start place.end (numbered (n, row)) xs (numbered v) (here refl)
          (inl (omega (arith, leb-false (size_of v.1) (size_of row) gt))) is

  best_from : (n : ℕ) (rows : List PlaceRow) → IsBest place.start place.end (scopes_in place.tree n rows) (option_map numbered (shortest_from n rows))
  best_from n [] = λ y among holds. none_among y among
  best_from n (row ∷ rows) =
      subst (λ (o : Option (ℕ × PlaceRow)). IsBest place.start place.end (scopes_in place.tree n (row ∷ rows)) (option_map numbered o))
      (sym (by (holds row place)))
      (step n row (scopes_in place.tree (n + 1) rows) (shortest_from (n + 1) rows) (row.tree == place.tree)
      (nat_le row.start place.start && nat_le place.end row.end) (at_least place.tree (n + 1) rows)
      (λ is. let parts = and_parts (nat_le row.start place.start) (nat_le place.end row.end) is in
      (leb-true row.start place.start parts.0, leb-true place.end row.end parts.1))
      (λ not here. true≢false (sym (λ i. le-leb row.start place.start here.0 i && le-leb place.end row.end here.1 i) ∙ not))
      (best_from (n + 1) rows))
    where
      by : (b : Bool) → shortest (if b then (n, row) ∷ filter (λ scope. holds scope.1 place) (enumerate_from (n + 1) rows) else filter (λ scope. holds scope.1 place) (enumerate_from (n + 1) rows))
          ≡ (if b then shorter (n, row) (shortest_from (n + 1) rows) else shortest_from (n + 1) rows)
      by true = refl
      by false = refl

  -- and that is the scope
  pub scope_is_best : (rows : List PlaceRow) → IsBest place.start place.end (scopes_in place.tree 0 rows) (option_map numbered (shortest_from 0 rows))
  scope_is_best rows = best_from 0 rows

  pub scope_is : (rows : List PlaceRow) → option_map id_of (option_map numbered (shortest_from 0 rows)) ≡ scope_of rows place
  scope_is rows = by (shortest_from 0 rows)
    where
      by : (o : Option (ℕ × PlaceRow)) → option_map id_of (option_map numbered o) ≡ option_map (λ scope. record { 0 = scope.0 }) o
      by None = refl
      by (Some v) = refl

-- the best of some scopes is the best of the same in another order
pub best_sorted : (start end : ℕ) (xs ys : List Scope) (best : Option Scope) → IsPermutation xs ys → IsBest start end xs best → IsBest start end ys best
best_sorted start end xs ys None moved none = λ y among holds. none y (Contains-permutation ys xs y (IsPermutation-sym xs ys moved) among) holds
best_sorted start end xs ys (Some v) moved is =
    (Contains-permutation xs ys v moved is.0, is.1, λ y among holds. is.2 y (Contains-permutation ys xs y (IsPermutation-sym xs ys moved) among) holds)
