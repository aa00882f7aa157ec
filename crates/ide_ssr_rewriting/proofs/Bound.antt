-- The tokens that placeholders hold are passed over.
use Rattle.std.proofs.Common.{◌≡◌, ℕ, zero, suc, ◌+◌, ◌-◌, ◌<◌, ◌≤◌, ◌==◌, ◌&&◌, not, inl, inr, min, max, Bool, true, false, List, [], ◌∷◌, refl, sym, ◌∙◌, ap, subst, arith}
use Rattle.std.specs.Prelude.{if◌then◌else◌, nat_le, nat_lt}
use Rattle.std.proofs.lemmas.Bool.{true≢false, and_cases, and_from, and_left, and_right, cases_eq, cases_lt, eq-eqb, le-leb, le-ltb, lt-leb, lt-ltb, not_from_false, not_from_true, or_from, or_left, or_right}
use Rattle.ssr_syntax_tree.specs.declared.number.TokenNo.{TokenNo}
use Rattle.ssr_syntax_tree.specs.Syntax.{Syntax}
use Rattle.ssr_syntax_tree.specs.Places.{token_of}
use Rattle.ssr_base_trees.specs.declared.ids.TokenRun.{TokenRun}
use Rattle.ide_ssr_bindings.specs.Apart.{tokens_held}
use Rattle.ide_ssr_bindings.specs.declared.bindings.Binding.{Binding}
use Rattle.ide_ssr_rewriting.specs.Comments.{is_among, is_bound, is_comment, is_kept_comment}
use Rattle.ide_ssr_rewriting.specs.Private.Comments.{left_in, bound_from}
use Rattle.ide_ssr_rewriting.proofs.Passed.{passed, passed-left}

-- ** Runs.

-- where none is left, the token is none of the run
not_among : (run : TokenRun) (token : TokenNo) → left_in run token ≡ 0 → is_among run token ≡ false
not_among run token none = elim (cases_lt token.0 run.first) [
  | inl before ↦ and_left (nat_le run.first token.0) (nat_lt token.0 (run.first + run.count)) (lt-leb run.first token.0 before)
  | inr from ↦
      let left : left_in run token ≡ run.first + run.count - token.0 = rw (le-leb run.first token.0 from) refl in
      and_right (nat_le run.first token.0) (nat_lt token.0 (run.first + run.count))
      (le-ltb token.0 (run.first + run.count) (let nothing : run.first + run.count - token.0 ≡ 0 = sym left ∙ none in omega arith))
]

-- each one that is left is one of the run
among : (run : TokenRun) (token other : TokenNo) → token.0 ≤ other.0 → other.0 < token.0 + left_in run token → is_among run other ≡ true
among run token other le lt = elim (cases_lt token.0 run.first) [
  | inl before ↦
      let left : left_in run token ≡ 0 = rw (lt-leb run.first token.0 before) refl in
      absurd (let past : other.0 < token.0 + 0 = subst (λ (n : ℕ). other.0 < token.0 + n) left lt in omega arith)
  | inr from ↦
      let left : left_in run token ≡ run.first + run.count - token.0 = rw (le-leb run.first token.0 from) refl in
      let within : other.0 < token.0 + (run.first + run.count - token.0) = subst (λ (n : ℕ). other.0 < token.0 + n) left lt in
      and_from (nat_le run.first other.0) (nat_lt other.0 (run.first + run.count))
      (le-leb run.first other.0 (omega arith)) (lt-ltb other.0 (run.first + run.count) (omega arith))
]

-- ** Bindings.

taken : (held rest : ℕ) → 0 < held → (if nat_lt 0 held then held else rest) ≡ held
taken held rest some = rw (lt-ltb 0 held some) refl

skipped : (held rest : ℕ) → held ≡ 0 → (if nat_lt 0 held then held else rest) ≡ rest
skipped held rest none = subst (λ (held : ℕ). (if nat_lt 0 held then held else rest) ≡ rest) (sym none) refl

pub unbound : (code : Syntax) (token : TokenNo) (bindings : List Binding) → bound_from code token bindings ≡ 0 → is_bound code bindings token ≡ false
unbound code token [] none = refl
unbound code token (b ∷ bs) none =
    let held : ℕ = left_in (tokens_held code b.held) token in
    let rest : ℕ = bound_from code token bs in
    elim (cases_eq held 0) [
      | inl nothing ↦
          or_from (is_among (tokens_held code b.held) token) (is_bound code bs token)
          (not_among (tokens_held code b.held) token nothing) (unbound code token bs (sym (skipped held rest nothing) ∙ none))
      | inr some ↦ absurd (some (sym (taken held rest (omega arith)) ∙ none))
    ]

pub bound : (code : Syntax) (token other : TokenNo) (bindings : List Binding) → token.0 ≤ other.0 → other.0 < token.0 + bound_from code token bindings
    → is_bound code bindings other ≡ true
bound code token other [] le lt = absurd (let past : other.0 < token.0 + 0 = lt in omega arith)
bound code token other (b ∷ bs) le lt =
    let held : ℕ = left_in (tokens_held code b.held) token in
    let rest : ℕ = bound_from code token bs in
    elim (cases_eq held 0) [
      | inl nothing ↦
          or_right (is_among (tokens_held code b.held) other) (is_bound code bs other)
          (bound code token other bs le (subst (λ (n : ℕ). other.0 < token.0 + n) (skipped held rest nothing) lt))
      | inr some ↦
          or_left (is_among (tokens_held code b.held) other) (is_bound code bs other)
          (among (tokens_held code b.held) token other le (subst (λ (n : ℕ). other.0 < token.0 + n) (taken held rest (omega arith)) lt))
    ]

-- ** Comments.

-- a comment that is not bound is kept
pub kept : (code : Syntax) (bindings : List Binding) (token : TokenNo) → bound_from code token bindings ≡ 0 → is_comment (token_of code token.0).kind ≡ true
    → is_kept_comment code bindings token ≡ true
kept code bindings token none comment =
    and_from (is_comment (token_of code token.0).kind) (not (is_bound code bindings token)) comment
    (not_from_false (is_bound code bindings token) (unbound code token bindings none))

-- where the token is bound or no comment, none of those that are passed is kept
pub unkept : (code : Syntax) (bindings : List Binding) (token other : TokenNo) (left : ℕ)
    → (bound_from code token bindings ≡ 0 → is_comment (token_of code token.0).kind ≡ false)
    → token.0 ≤ other.0 → other.0 < token.0 + min (max (bound_from code token bindings) 1) left → is_kept_comment code bindings other ≡ false
unkept code bindings token other left plain le lt =
    elim (cases_eq (bound_from code token bindings) 0) [
      | inl none ↦
          let same : token.0 ≡ other.0 = omega arith in
          and_left (is_comment (token_of code other.0).kind) (not (is_bound code bindings other))
          (subst (λ (n : ℕ). is_comment (token_of code n).kind ≡ false) same (plain none))
      | inr some ↦
          and_right (is_comment (token_of code other.0).kind) (not (is_bound code bindings other))
          (not_from_true (is_bound code bindings other) (bound code token other bindings le (omega arith)))
    ]

-- where the test failed, what is not bound is no comment
pub not_kept : (comment : Bool) (tested many : ℕ) → tested ≡ many → (comment && tested == 0) ≡ false → many ≡ 0 → comment ≡ false
not_kept comment tested many same fails none = elim (and_cases comment (tested == 0) fails) [
  | inl plain ↦ plain
  | inr some ↦ absurd (true≢false (sym (eq-eqb tested 0 (same ∙ none)) ∙ some))
]

-- where nothing is bound, one token is passed
pub one_passed : (many left steps : ℕ) → many ≡ 0 → 0 < left → steps ≡ min (max many 1) left → 1 ≡ steps
one_passed many left steps none some is = omega arith

-- tokens that are not kept change nothing
pub passed-over : (p : TokenNo → Bool) (first next steps : ℕ) (old : List TokenNo) → first ≤ next → old ≡ passed p first next
    → ((n : ℕ) → next ≤ n → n < next + steps → p (record { 0 = n }) ≡ false) → old ≡ passed p first (next + steps)
passed-over p first next zero old le is none = is ∙ ap (λ (n : ℕ). passed p first n) (let same : next ≡ next + zero = omega arith in same)
passed-over p first next (suc steps) old le is none =
    let before : old ≡ passed p first (next + steps) = passed-over p first next steps old le is (λ n le lt. none n le (omega arith)) in
    let last : p (record { 0 = next + steps }) ≡ false = none (next + steps) (omega arith) (omega arith) in
    let more : (next + steps) + 1 ≡ next + suc steps = omega arith in
    passed-left p first (next + steps) old old (omega arith) before last refl ∙ ap (λ (n : ℕ). passed p first n) more
