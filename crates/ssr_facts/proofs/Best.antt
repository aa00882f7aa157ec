-- Of scopes, which are better, and which are kept as they begin.
use Rattle.std.proofs.Common.{◌≡◌, ℕ, ◌<◌, ◌≤◌, ◌⊎◌, List, [], ◌∷◌, ◌++◌, Bool, cond, true, false, Option, Some, None, refl, sym, ap, subst, ◌∙◌, inl, inr, arith, eq-eqb, ne_eqb}
use Rattle.std.proofs.lemmas.Bool.{cases_eq}
use Rattle.std.proofs.lemmas.Option.{same_Some}
use Rattle.std.proofs.lemmas.List.Elements.{Contains-append_left, Contains-push, Contains-push_cases}
use Rattle.std.proofs.lemmas.Bool.Decides.{nat_tests}
use Rattle.std.proofs.lemmas.Map.Keys.{le_from_not_gt}
use Rattle.std.specs.BTreeMap.{is_at}
use Rattle.std.specs.Cmp.{unsigned_ties}
use Rattle.std.specs.Ordering.{is_gt, is_lt, nat_cmp}
use Rattle.std.specs.Prelude.{Contains, IsSome}
use Rattle.std.specs.Option.{option_map}
use Rattle.ssr_facts.specs.declared.scopes.Scope.{Scope}
use Rattle.ssr_facts.specs.Private.Scopes.{IsBetter, AsGood, IsBest, Covers, IsKept, IsKeptBeside, IsFirst, IsWorse}

-- ** The order of scopes.

pub as_itself : (a : Scope) → AsGood a a
as_itself a = inr (refl, omega arith)

pub good_good : (a b c : Scope) → AsGood a b → AsGood b c → AsGood a c
good_good a b c (inl p) (inl q) = inl (omega arith)
good_good a b c (inl p) (inr q) = inl (omega arith)
good_good a b c (inr p) (inl q) = inl (omega arith)
good_good a b c (inr p) (inr q) = inr (p.0 ∙ q.0, omega arith)

pub good_better : (a b : Scope) → IsBetter a b → AsGood a b
good_better a b (inl p) = inl p
good_better a b (inr p) = inr (p.0, omega arith)

-- no scope is better than one than which it is worse
pub not_both : (a b : Scope) → IsBetter a b → IsBetter b a → ⊥
not_both a b (inl p) (inl q) = omega arith
not_both a b (inl p) (inr q) = omega arith
not_both a b (inr p) (inl q) = omega arith
not_both a b (inr p) (inr q) = omega arith

-- two that are as good as each other are one row
pub one_number : (a b : Scope) → AsGood a b → AsGood b a → a.number ≡ b.number
one_number a b (inl p) (inl q) = absurd (omega arith)
one_number a b (inl p) (inr q) = absurd (omega arith)
one_number a b (inr p) (inl q) = absurd (omega arith)
one_number a b (inr p) (inr q) = omega arith

-- ** What is kept.

module _ (kept : ℕ → Option Scope) (begun : List Scope) (known : IsKept kept begun) where
  -- from the first one on that is kept at an end, the others are worse
  pub first_is_best : (end k : ℕ) (first : Scope) → kept k ≡ Some first → ((j : ℕ) (u : Scope) → end ≤ j → kept j ≡ Some u → k ≤ j)
      → (j : ℕ) (v : Scope) → end ≤ j → kept j ≡ Some v → AsGood first v
  first_is_best end k first is least j v behind has =
      elim (cases_eq k j) [
        | inl same ↦
            subst (λ (u : Scope). AsGood first u) (same_Some first v (sym is ∙ ap kept same ∙ has)) (as_itself first)
        | inr other ↦
            let le : k ≤ j = least j v behind has in
            good_better first v (known.stairs k j first v (omega arith) is has)
      ]

  -- one that is covered needn't be kept
  pub kept_covered : (x : Scope) → Covers kept x → IsKept kept (begun ++ x ∷ [])
  kept_covered x covers = record {
    own = λ k v has. let own = known.own k v has in (own.0, Contains-append_left begun (x ∷ []) v own.1);
    stairs = known.stairs;
    covered = λ y among. elim (Contains-push_cases begun x y among) [
      | inl before ↦ known.covered y before
      | inr same ↦ subst (Covers kept) same covers
    ];
  }

  -- one comes in that is better than what is kept at its end or behind it
  pub kept_beside : (x : Scope) → ((k : ℕ) (v : Scope) → x.end ≤ k → kept k ≡ Some v → IsBetter x v) → IsKeptBeside kept begun x
  kept_beside x better = record {
    own = known.own;
    stairs = known.stairs;
    covered = λ y among. inl (known.covered y among);
    behind = better;
  }

-- one goes out than which the one that comes in is as good
pub taken_out : (kept left : ℕ → Option Scope) (begun : List Scope) (x : Scope) (end : ℕ) → IsKeptBeside kept begun x → IsWorse kept x end
    → ((k : ℕ) (v : Scope) → left k ≡ Some v → kept k ≡ Some v) → ((k : ℕ) → (k ≡ end → ⊥) → left k ≡ kept k)
    → IsKeptBeside left begun x
taken_out kept left begun x end known worse sub others = record {
  own = λ k v has. known.own k v (sub k v has);
  stairs = λ j k a b less at_j at_k. known.stairs j k a b less (sub j a at_j) (sub k b at_k);
  covered = λ y among. again y (known.covered y among);
  behind = λ k v le has. known.behind k v le (sub k v has);
}
  where
    again : (y : Scope) → (Covers kept y ⊎ ((y.end ≤ x.end) × AsGood x y)) → Covers left y ⊎ ((y.end ≤ x.end) × AsGood x y)
    again y (inr beside) = inr beside
    again y (inl covers) =
        elim (cases_eq covers.end end) [
          | inl same ↦
              let one : worse.scope ≡ covers.scope = same_Some worse.scope covers.scope (sym worse.is ∙ ap kept (sym same) ∙ covers.is) in
              let le : covers.end ≤ x.end = omega (arith, worse.within, same) in
              inr (omega (arith, covers.behind, le), good_good x covers.scope y (subst (AsGood x) one worse.worse) covers.good)
          | inr other ↦
              inl (record { end = covers.end; scope = covers.scope; is = others covers.end other ∙ covers.is; behind = covers.behind; good = covers.good })
        ]

-- and then the one that comes in is put at its end
pub put_in : (kept new : ℕ → Option Scope) (begun : List Scope) (x : Scope) → IsKeptBeside kept begun x
    → ((k : ℕ) (v : Scope) → k ≤ x.end → kept k ≡ Some v → IsBetter v x)
    → new x.end ≡ Some x → ((k : ℕ) → (k ≡ x.end → ⊥) → new k ≡ kept k)
    → IsKept new (begun ++ x ∷ [])
put_in kept new begun x known before here others = record {
  own = λ k v has. elim (cases_eq k x.end) [
    | inl same ↦
        let one : x ≡ v = same_Some x v (sym here ∙ ap new (sym same) ∙ has) in
        (ap (λ (u : Scope). u.end) (sym one) ∙ sym same, subst (Contains (begun ++ x ∷ [])) one (Contains-push begun x))
    | inr other ↦
        let own = known.own k v (sym (others k other) ∙ has) in
        (own.0, Contains-append_left begun (x ∷ []) v own.1)
  ];
  stairs = stairs;
  covered = λ y among. elim (Contains-push_cases begun x y among) [
    | inl earlier ↦ again y (known.covered y earlier)
    | inr same ↦ subst (Covers new) same (record { end = x.end; scope = x; is = here; behind = omega arith; good = as_itself x })
  ];
}
  where
    stairs : (j k : ℕ) (a b : Scope) → j < k → new j ≡ Some a → new k ≡ Some b → IsBetter a b
    stairs j k a b less at_j at_k =
        elim (cases_eq j x.end) [
          | inl first ↦
              let one : x ≡ a = same_Some x a (sym here ∙ ap new (sym first) ∙ at_j) in
              subst (λ (u : Scope). IsBetter u b) one (known.behind k b (omega arith) (sym (others k (λ e. omega arith)) ∙ at_k))
          | inr other ↦
              elim (cases_eq k x.end) [
                | inl second ↦
                    let one : x ≡ b = same_Some x b (sym here ∙ ap new (sym second) ∙ at_k) in
                    subst (IsBetter a) one (before j a (omega arith) (sym (others j other) ∙ at_j))
                | inr neither ↦
                    known.stairs j k a b less (sym (others j other) ∙ at_j) (sym (others k neither) ∙ at_k)
              ]
        ]

    again : (y : Scope) → (Covers kept y ⊎ ((y.end ≤ x.end) × AsGood x y)) → Covers new y
    again y (inr beside) = record { end = x.end; scope = x; is = here; behind = beside.0; good = beside.1 }
    again y (inl covers) =
        elim (cases_eq covers.end x.end) [
          | inl same ↦
              absurd (not_both covers.scope x (before covers.end covers.scope (omega arith) covers.is) (known.behind covers.end covers.scope (omega arith) covers.is))
          | inr other ↦
              record { end = covers.end; scope = covers.scope; is = others covers.end other ∙ covers.is; behind = covers.behind; good = covers.good }
        ]

-- ** The answer for a span.

-- the first that is kept at its end is the best of those that began, where these are the ones that begin up to its start
pub first_best : (kept : ℕ → Option Scope) (begun scopes : List Scope) (start end : ℕ) (first : Option Scope) → IsKept kept begun
    → ((y : Scope) → Contains begun y → Contains scopes y × (y.start ≤ start))
    → ((y : Scope) → Contains scopes y → y.start ≤ start → Contains begun y)
    → IsFirst kept end first → IsBest start end scopes first
first_best kept begun scopes start end None known sub all none =
    λ y among holds. let covers = known.covered y (all y among holds.0) in
    none covers.end covers.scope (omega (arith, covers.behind, holds.1)) covers.is
first_best kept begun scopes start end (Some v) known sub all is =
    let own = known.own is.0 v is.2 in
    let among = sub v own.1 in (
      among.0,
      (among.1, omega (arith, is.1, own.0)),
      λ y has holds.
          let covers = known.covered y (all y has holds.0) in
          good_good v covers.scope y
          (first_is_best kept begun known end is.0 v is.2 is.3 covers.end covers.scope (omega (arith, covers.behind, holds.1)) covers.is)
          covers.good,
    )

-- two best ones are one row
pub one_best : (start end : ℕ) (scopes : List Scope) (a b : Option Scope) → IsBest start end scopes a → IsBest start end scopes b
    → option_map (λ (scope : Scope). scope.number) a ≡ option_map (λ (scope : Scope). scope.number) b
one_best start end scopes None None p q = refl
one_best start end scopes None (Some v) p q = absurd (p v q.0 q.1)
one_best start end scopes (Some v) None p q = absurd (q v p.0 p.1)
one_best start end scopes (Some v) (Some u) p q = ap Some (one_number v u (p.2 u q.0 q.1) (q.2 v p.0 p.1))

-- ** What a map of scopes by their ends has, after a key was put in or taken out.

pub up_to : (k end : ℕ) → k ≤ end → is_gt (nat_cmp k end) ≡ false
up_to k end le = grind (arith, nat_tests)

pub not_after : (k end : ℕ) → is_gt (nat_cmp k end) ≡ false → k ≤ end
not_after k end is = le_from_not_gt k end is

pub not_before : (end k : ℕ) → is_lt (nat_cmp end k) ≡ false → k ≤ end
not_before end k is = grind (arith, nat_tests)

pub is_there : {o : Option Scope} {v : Scope} → o ≡ Some v → IsSome o
is_there is = grind (arith, is)

pub others_stay : (before after : ℕ → Option Scope) (end : ℕ) (w : Option Scope) → ((k : ℕ) → after k ≡ cond (is_at (nat_cmp end) k) w (before k))
    → (k : ℕ) → (k ≡ end → ⊥) → after k ≡ before k
others_stay before after end w changed k other = changed k ∙ ap (λ b. cond b w (before k)) (sym (unsigned_ties end k) ∙ ne_eqb end k (λ e. other (sym e)))

pub is_put : (before after : ℕ → Option Scope) (end : ℕ) (w : Option Scope) → ((k : ℕ) → after k ≡ cond (is_at (nat_cmp end) k) w (before k)) → after end ≡ w
is_put before after end w changed = changed end ∙ ap (λ b. cond b w (before end)) (sym (unsigned_ties end end) ∙ eq-eqb end end refl)

pub was_there : (before after : ℕ → Option Scope) (end : ℕ) → ((k : ℕ) → after k ≡ cond (is_at (nat_cmp end) k) None (before k))
    → (k : ℕ) (v : Scope) → after k ≡ Some v → before k ≡ Some v
was_there before after end changed k v has = by (is_at (nat_cmp end) k) (sym (changed k) ∙ has)
  where
    by : (b : Bool) → cond b None (before k) ≡ Some v → before k ≡ Some v
    by true e = cc
    by false e = e
