-- The scopes that have begun when a node comes, of scopes that are in the order of their starts.
use Rattle.std.proofs.Common.{◌≡◌, ℕ, ◌+◌, ◌<◌, ◌≤◌, ◌==◌, List, [], ◌∷◌, ◌++◌, length, take, get_or, Bool, cond, true, false, Option, Some, None, refl, sym, ap, ◌∙◌, inl, inr, arith, length-take}
use Rattle.std.proofs.lemmas.Bool.{cases_lt}
use Rattle.std.proofs.lemmas.List.{get_or-take}
use Rattle.std.proofs.lemmas.Option.{slice_get-get_or, slice_get_within}
use Rattle.std.specs.Prelude.{Contains, slice_get, if◌then◌else◌}
use Rattle.std.specs.BTreeMap.{is_at}
use Rattle.std.specs.Cmp.{unsigned_ties}
use Rattle.std.specs.List.Sorted.{IsNonDecreasingBy}
use Rattle.std.specs.Option.{option_map, option_or}
use Rattle.std.specs.Ordering.{nat_cmp}
use Rattle.ssr_base_trees.specs.declared.ids.ScopeId.{ScopeId}
use Rattle.ssr_facts_rows.specs.declared.places.PlaceRow.{PlaceRow}
use Rattle.ssr_facts.specs.declared.scopes.Scope.{Scope}
use Rattle.ssr_facts.specs.Private.Scopes.{scopes_in, IsBest, IsKept, IsFirst, id_of}
use Rattle.ssr_facts.proofs.Best.{first_best, one_best}
use Rattle.ssr_facts.proofs.Lists.{take_one, option_or_none, append_none}
use Rattle.ssr_facts.proofs.Shortest.{numbered, scopes_in-push}

module _ (scopes : List Scope) (past : ℕ) (within : past ≤ length scopes) where
  taken : (y : Scope) (among : Contains (take past scopes) y) → (among.0 < past) × (slice_get scopes among.0 ≡ Some y) × Contains scopes y
  taken y among =
      let lt : among.0 < past = omega (arith, among.1, length-take past scopes) in
      let is : get_or scopes among.0 y ≡ y = sym (get_or-take past scopes among.0 y lt) ∙ among.2 in
      (lt, slice_get-get_or scopes among.0 y (omega arith) ∙ ap Some is, (among.0, omega arith, is))

  still : (y : Scope) (among : Contains scopes y) → among.0 < past → Contains (take past scopes) y
  still y among lt = (among.0, omega (arith, lt, within, length-take past scopes), get_or-take past scopes among.0 y lt ∙ among.2)

  -- the first one that is kept is the best one
  pub sweep_best : (kept : ℕ → Option Scope) (start end : ℕ) (first : Option Scope) → IsKept kept (take past scopes) → IsNonDecreasingBy (λ (scope : Scope). scope.start) scopes
      → ((k : ℕ) (v : Scope) → k < past → slice_get scopes k ≡ Some v → v.start ≤ start) → ((v : Scope) → slice_get scopes past ≡ Some v → start < v.start)
      → IsFirst kept end first → IsBest start end scopes first
  sweep_best kept start end first known sorted begun waiting is =
      first_best kept (take past scopes) scopes start end first known
      (λ y among. let here = taken y among in (here.2, begun among.0 y here.0 here.1))
      (λ y among starts. elim (cases_lt among.0 past) [
        | inl lt ↦ still y among lt
        | inr behind ↦
            let next = waiting (get_or scopes past y) (slice_get-get_or scopes past y (omega (arith, among.1, behind))) in
            let order = sorted past among.0 y behind among.1 in
            absurd (omega (arith, next, order, starts, ap (λ (u : Scope). u.start) among.2))
      ])
      is

-- ** What is told of a node.

abbrev number_id : ℕ → ScopeId
number_id n = record { 0 = n }

-- the best scope of this node is told
pub told_if_same : (b : Bool) (now : Option ScopeId) (start end : ℕ) (scopes : List Scope) (best : Option Scope) (v : Scope)
    → (b ≡ true → IsBest start end scopes best) → IsBest start end scopes (Some v)
    → option_or now (cond b (Some (id_of v)) None) ≡ option_or now (cond b (option_map id_of best) None)
told_if_same true now start end scopes best v is first =
    ap (option_or now) (ap (option_map number_id) (one_best start end scopes (Some v) best first (is refl)) ∙ back best)
  where
    back : (o : Option Scope) → option_map number_id (option_map (λ (scope : Scope). scope.number) o) ≡ option_map id_of o
    back None = refl
    back (Some v) = refl
told_if_same false now start end scopes best v is first = refl

-- or there is none
pub untold_if_same : (b : Bool) (now : Option ScopeId) (start end : ℕ) (scopes : List Scope) (best : Option Scope)
    → (b ≡ true → IsBest start end scopes best) → IsBest start end scopes None → now ≡ option_or now (cond b (option_map id_of best) None)
untold_if_same true now start end scopes None is none = sym (option_or_none now)
untold_if_same true now start end scopes (Some v) is none = absurd (none v (is refl).0 (is refl).1)
untold_if_same false now start end scopes best is none = sym (option_or_none now)

-- ** The scopes of trees.

-- one row more
pub scopes_more : (t : ℕ) (rows : List PlaceRow) (n : ℕ) (row : PlaceRow) (old new : List Scope) → slice_get rows n ≡ Some row → old ≡ scopes_in t 0 (take n rows)
    → new ≡ (if is_at (nat_cmp row.tree) t then old ++ numbered (n, row) ∷ [] else old) → new ≡ scopes_in t 0 (take (n + 1) rows)
scopes_more t rows n row old new is before adds =
    let lt : n < length rows = slice_get_within rows n row is in
    let count : 0 + length (take n rows) ≡ n = omega (arith, length-take n rows, lt) in
    adds ∙ (λ i. if sym (unsigned_ties row.tree t) i then before i ++ numbered (n, row) ∷ [] else before i)
    ∙ by (row.tree == t)
    ∙ ap (λ (k : ℕ). scopes_in t 0 (take n rows) ++ (if row.tree == t then numbered (k, row) ∷ [] else [])) (sym count)
    ∙ sym (scopes_in-push t 0 (take n rows) row) ∙ ap (scopes_in t 0) (sym (take_one rows n row is))
  where
    by : (b : Bool) → (if b then scopes_in t 0 (take n rows) ++ numbered (n, row) ∷ [] else scopes_in t 0 (take n rows)) ≡ scopes_in t 0 (take n rows) ++ (if b then numbered (n, row) ∷ [] else [])
    by true = refl
    by false = append_none (scopes_in t 0 (take n rows))
