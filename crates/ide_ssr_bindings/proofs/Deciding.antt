-- Facts that hold or don't, as their parts do: what is decided of matches.
use Rattle.std.proofs.Common.{◌≡◌, ℕ, zero, suc, ◌<◌, ◌≤◌, inl, inr, ◌⊎◌, List, [], ◌∷◌, get_or, All, AllPairs, Contains, Option, Some, None, IfSome, IsSomeAnd, sym, ◌∙◌, subst, arith}
use Rattle.std.proofs.lemmas.Bool.{cases_Bool, cases_eq, cases_lt, false≢true}
use Rattle.std.proofs.lemmas.List.Elements.{All-nil, All-cons, All-head, All-tail, Contains-get_or}
use Rattle.std.proofs.lemmas.List.Kept.{AllPairs-cons}
use Rattle.ssr_syntax_kinds.specs.declared.kinds.SyntaxKind.{SyntaxKind}
use Rattle.ssr_syntax_kinds.specs.Kinds.{same_kind}
use Rattle.ssr_syntax_kinds.proofs.Shared.{same_kind-equal, equal-same_kind}
use Rattle.ssr_syntax_tree.proofs.Lists.{pairs_none, pairs_head, pairs_tail, at_front, at_back, front_or_back}
use Rattle.ssr_base_trees.specs.Workspace.{FileSpan}
use Rattle.ssr_base_trees.specs.Laws.{LiesIn}

-- ** Any facts.

abbrev pub Decided : Type 0 → Type 0
Decided P = P ⊎ (P → ⊥)

pub both : {P Q : Type 0} → Decided P → Decided Q → Decided (P × Q)
both (inl p) (inl q) = inl (p, q)
both (inl p) (inr fails) = inr (λ h. fails h.1)
both (inr fails) other = inr (λ h. fails h.0)

pub either : {P Q : Type 0} → Decided P → Decided Q → Decided (P ⊎ Q)
either (inl p) other = inl (inl p)
either (inr fails) (inl q) = inl (inr q)
either (inr fails) (inr both_fail) = inr (λ h. elim h [ inl p ↦ fails p | inr q ↦ both_fail q ])

pub likewise : {P Q : Type 0} → Decided P → (P → Q) → (Q → P) → Decided Q
likewise (inl p) to from = inl (to p)
likewise (inr fails) to from = inr (λ q. fails (from q))

pub denied : {P : Type 0} → Decided P → Decided (P → ⊥)
denied (inl p) = inr (λ fails. fails p)
denied (inr fails) = inl fails

pub given : {P Q : Type 0} → Decided P → Decided Q → Decided (P → Q)
given (inl p) (inl q) = inl (λ _. q)
given (inl p) (inr fails) = inr (λ h. fails (h p))
given (inr fails) other = inl (λ p. absurd (fails p))

pub of_some : {A : Type 0} (P : A → Type 0) → ((x : A) → Decided (P x)) → (o : Option A) → Decided (IsSomeAnd o P)
of_some P test None = inr (λ fails. fails)
of_some P test (Some x) = test x

pub if_some : {A : Type 0} (P : A → Type 0) → ((x : A) → Decided (P x)) → (o : Option A) → Decided (IfSome o P)
if_some P test None = inl tt
if_some P test (Some x) = test x

pub each : {X : Type 0} (P : X → Type 0) → ((x : X) → Decided (P x)) → (xs : List X) → Decided (All P xs)
each P test [] = inl (All-nil P)
each P test (x ∷ xs) =
    likewise (both (test x) (each P test xs)) (λ h. All-cons P x xs h.0 h.1) (λ all. (All-head P x xs all, All-tail P x xs all))

pub each_two : {X : Type 0} (R : X → X → Type 0) → ((x y : X) → Decided (R x y)) → (xs : List X) → Decided (AllPairs R xs)
each_two R test [] = inl (pairs_none R)
each_two R test (x ∷ xs) =
    likewise (both (each (R x) (test x) xs) (each_two R test xs)) (λ h. AllPairs-cons R x xs h.0 h.1)
    (λ pairs. (pairs_head R x xs pairs, pairs_tail R x xs pairs))

pub some_one : {X : Type 0} (P : X → Type 0) → ((x : X) → Decided (P x)) → (xs : List X) → Decided ((x : X) × Contains xs x × P x)
some_one P test [] = inr (λ one. let within = one.1.1 in omega arith)
some_one P test (x ∷ xs) =
    elim (test x) [
      | inl here ↦ inl (x, at_front x xs, here)
      | inr other ↦
          likewise (some_one P test xs) (λ one. (one.0, at_back x one.0 xs one.1, one.2))
          (λ one. elim (front_or_back x one.0 xs one.1) [
            | inl same ↦ absurd (other (subst P (sym same) one.2))
            | inr later ↦ (one.0, later, one.2)
          ])
    ]

-- the last number of which something holds, or it holds of none
pub last_of : (P : ℕ → Type 0) (count : ℕ) → ((n : ℕ) → n < count → Decided (P n)) → ((n : ℕ) → count ≤ n → P n → ⊥)
    → ((n : ℕ) × P n × ((m : ℕ) → n < m → P m → ⊥)) ⊎ ((n : ℕ) → P n → ⊥)
last_of P zero test past = inr (λ n. past n (omega arith))
last_of P (suc count) test past =
    elim (test count (omega arith)) [
      | inl here ↦ inl (count, here, λ m more. past m (omega arith))
      | inr other ↦
          last_of P count (λ n less. test n (omega arith))
          (λ n low known. elim (cases_eq n count) [
            | inl same ↦ other (subst P same known)
            | inr differ ↦ past n (omega arith) known
          ])
    ]

pub all_of : {X : Type 0} (P : X → Type 0) (xs : List X) → ((x : X) → Contains xs x → P x) → All P xs
all_of P xs known n d within = known (get_or xs n d) (Contains-get_or xs n d within)

-- ** Numbers, kinds and ranges.

pub less : (m n : ℕ) → Decided (m < n)
less m n = elim (cases_lt m n) [ inl before ↦ inl before | inr behind ↦ inr (λ before. omega arith) ]

pub at_most : (m n : ℕ) → Decided (m ≤ n)
at_most m n = elim (cases_lt n m) [ inl more ↦ inr (λ low. omega arith) | inr low ↦ inl low ]

pub of_kind : (a b : SyntaxKind) → Decided (a ≡ b)
of_kind a b = elim (cases_Bool (same_kind a b)) [
  | inl same ↦ inl (same_kind-equal a b same)
  | inr other ↦ inr (λ same. false≢true (sym other ∙ equal-same_kind a b same))
]

pub lies_in : (a b : FileSpan) → Decided (LiesIn a b)
lies_in a b =
    likewise (both (cases_eq a.file b.file) (both (at_most b.span.start a.span.start) (at_most a.span.end b.span.end)))
    (λ h. record { file = h.0; begins = h.1.0; ends = h.1.1 })
    (λ lies. (lies.file, (lies.begins, lies.ends)))
