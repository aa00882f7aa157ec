-- What ends with a closing brace fits whatever stands behind it: no look sees past a brace.
use Rattle.std.proofs.Common.{◌≡◌, ℕ, zero, suc, ◌-◌, ◌≤◌, Bool, true, false, not, ◌&&◌, ◌||◌, List, [], ◌∷◌, ◌++◌, length, take, drop, inl, inr, refl, sym, ap, ◌∙◌, arith, append_assoc}
use Rattle.std.proofs.lemmas.List.{append-nil, drop-append-le}
use Rattle.std.proofs.lemmas.Bool.{and_from, and_left, and_parts, not-true, or_cases, or_from, or_left, or_right, or_parts}
use Rattle.ssr_syntax_kinds.specs.declared.kinds.SyntaxKind.{SyntaxKind}
use Rattle.ssr_syntax_kinds.specs.declared.kinds.SyntaxKind.TheVariants as k
use Rattle.ssr_syntax_kinds.specs.Kinds.{same_kind}
use Rattle.ssr_syntax_kinds.proofs.Shared.{same_kind-equal}
use Rattle.ssr_syntax_forms.specs.declared.tokens.Token.{Token}
use Rattle.ssr_syntax_forms.specs.Kinds.{mem}
use Rattle.ssr_syntax_forms.specs.Trees.{Forest}
use Rattle.ssr_syntax_forms.specs.Forms.{Form, Test, one, seal, ◌then◌, nothing, check, Productions, are_next, passes, is_one}
use Rattle.ssr_syntax_forms.specs.Fitting.{Fits, token, sealed, behind, none, checked}
use Rattle.ssr_syntax_forms.proofs.Shared.{every, every_mem}
use Rattle.ssr_syntax_places.proofs.Ahead.{looks, SameSight, ahead}

-- ** Braces among tokens.

-- one of the tokens closes braces
abbrev pub has_closing : List Token → Bool
has_closing [] = false
has_closing (t ∷ ts) = same_kind t.joined k.R_CURLY || has_closing ts

-- no token is joined from a brace that closes
abbrev pub keeps_braces : List Token → Bool
keeps_braces [] = true
keeps_braces (t ∷ ts) = not (has_closing (take (t.size - 1) ts)) && keeps_braces ts

has_closing_behind : (us vs : List Token) → has_closing vs ≡ true → has_closing (us ++ vs) ≡ true
has_closing_behind [] vs h = h
has_closing_behind (t ∷ us) vs h = or_right (same_kind t.joined k.R_CURLY) (has_closing (us ++ vs)) (has_closing_behind us vs h)

has_closing_front : (us vs : List Token) → has_closing us ≡ true → has_closing (us ++ vs) ≡ true
has_closing_front [] vs h = absurd (cc)
has_closing_front (t ∷ us) vs h =
    elim (or_cases (same_kind t.joined k.R_CURLY) (has_closing us) h) [
      | inl here ↦ or_left (same_kind t.joined k.R_CURLY) (has_closing (us ++ vs)) here
      | inr later ↦ or_right (same_kind t.joined k.R_CURLY) (has_closing (us ++ vs)) (has_closing_front us vs later)
    ]

none_in_front : (n : ℕ) (us vs : List Token) → has_closing (take n (us ++ vs)) ≡ false → has_closing (take n us) ≡ false
none_in_front zero us vs h = refl
none_in_front (suc n) [] vs h = refl
none_in_front (suc n) (t ∷ us) vs h =
    let halves = or_parts (same_kind t.joined k.R_CURLY) (has_closing (take n (us ++ vs))) h in
    or_from (same_kind t.joined k.R_CURLY) (has_closing (take n us)) halves.0 (none_in_front n us vs halves.1)

-- a brace that isn't among the first stands behind them
behind_taken : (n : ℕ) (ts : List Token) → has_closing (take n ts) ≡ false → has_closing ts ≡ true → (n ≤ length ts) × (has_closing (drop n ts) ≡ true)
behind_taken zero ts absent h = (omega arith, h)
behind_taken (suc n) [] absent h = absurd (cc)
behind_taken (suc n) (t ∷ ts) absent h =
    let halves = or_parts (same_kind t.joined k.R_CURLY) (has_closing (take n ts)) absent in
    let later : has_closing ts ≡ true = sym (ap (λ x. x || has_closing ts) halves.0) ∙ h in
    let rest = behind_taken n ts halves.1 later in
    (omega (arith, rest.0), rest.1)

pub keeps_behind : (us vs : List Token) → keeps_braces (us ++ vs) ≡ true → keeps_braces vs ≡ true
keeps_behind [] vs h = h
keeps_behind (t ∷ us) vs h = keeps_behind us vs (and_parts (not (has_closing (take (t.size - 1) (us ++ vs)))) (keeps_braces (us ++ vs)) h).1

pub keeps_front : (us vs : List Token) → keeps_braces (us ++ vs) ≡ true → keeps_braces us ≡ true
keeps_front [] vs h = refl
keeps_front (t ∷ us) vs h =
    let halves = and_parts (not (has_closing (take (t.size - 1) (us ++ vs)))) (keeps_braces (us ++ vs)) h in
    let absent : has_closing (take (t.size - 1) us) ≡ false =
    none_in_front (t.size - 1) us vs (not-true (has_closing (take (t.size - 1) (us ++ vs))) halves.0) in
    and_from (not (has_closing (take (t.size - 1) us))) (keeps_braces us) (ap not absent) (keeps_front us vs halves.1)

keeps_dropped : (n : ℕ) (ts : List Token) → keeps_braces ts ≡ true → keeps_braces (drop n ts) ≡ true
keeps_dropped zero ts h = h
keeps_dropped (suc n) [] h = refl
keeps_dropped (suc n) (t ∷ ts) h = keeps_dropped n ts (and_parts (not (has_closing (take (t.size - 1) ts))) (keeps_braces ts) h).1

-- ** Tests that don't look past a brace.

abbrev pub string_stops : List (List SyntaxKind) → Bool
string_stops [] = true
string_stops (ks ∷ []) = true
string_stops (ks ∷ ls ∷ string) = not (mem k.R_CURLY ks) && string_stops (ls ∷ string)

abbrev pub test_stops : Test → Bool
test_stops [] = true
test_stops (string ∷ test) = string_stops string && test_stops test

-- where the first token is a brace, neither goes on
at_brace : (ks : List SyntaxKind) (t : Token) (x y : Bool) → mem k.R_CURLY ks ≡ false → same_kind t.joined k.R_CURLY ≡ true
    → (mem t.joined ks && x) ≡ (mem t.joined ks && y)
at_brace ks t x y absent is =
    let other : mem t.joined ks ≡ false = ap (λ kind. mem kind ks) (same_kind-equal t.joined k.R_CURLY is) ∙ absent in
    and_left (mem t.joined ks) x other ∙ sym (and_left (mem t.joined ks) y other)

string_agrees : (string : List (List SyntaxKind)) (ts a b : List Token) → string_stops string ≡ true → keeps_braces ts ≡ true → has_closing ts ≡ true
    → are_next string (ts ++ a) ≡ are_next string (ts ++ b)
string_agrees [] ts a b stops keeps has = refl
string_agrees (ks ∷ string) [] a b stops keeps has = absurd (cc)
string_agrees (ks ∷ []) (t ∷ ts) a b stops keeps has = refl
string_agrees (ks ∷ ls ∷ string) (t ∷ ts) a b stops keeps has =
    let s = and_parts (not (mem k.R_CURLY ks)) (string_stops (ls ∷ string)) stops in
    let c = and_parts (not (has_closing (take (t.size - 1) ts))) (keeps_braces ts) keeps in
    elim (or_cases (same_kind t.joined k.R_CURLY) (has_closing ts) has) [
      | inl is ↦ at_brace ks t (are_next (ls ∷ string) (drop (t.size - 1) (ts ++ a))) (are_next (ls ∷ string) (drop (t.size - 1) (ts ++ b)))
          (not-true (mem k.R_CURLY ks) s.0) is
      | inr later ↦
          let left = behind_taken (t.size - 1) ts (not-true (has_closing (take (t.size - 1) ts)) c.0) later in
          let same = string_agrees (ls ∷ string) (drop (t.size - 1) ts) a b s.1 (keeps_dropped (t.size - 1) ts c.1) left.1 in
          ap (λ w. mem t.joined ks && are_next (ls ∷ string) w) (drop-append-le (t.size - 1) ts a left.0)
          ∙ ap (λ w. mem t.joined ks && w) same
          ∙ sym (ap (λ w. mem t.joined ks && are_next (ls ∷ string) w) (drop-append-le (t.size - 1) ts b left.0))
    ]

test_agrees : (test : Test) (ts a b : List Token) → test_stops test ≡ true → keeps_braces ts ≡ true → has_closing ts ≡ true
    → passes test (ts ++ a) ≡ passes test (ts ++ b)
test_agrees [] ts a b stops keeps has = refl
test_agrees (string ∷ test) ts a b stops keeps has =
    let s = and_parts (string_stops string) (test_stops test) stops in
    ap (λ w. w || passes test (ts ++ a)) (string_agrees string ts a b s.0 keeps has)
    ∙ ap (λ w. are_next string (ts ++ b) || w) (test_agrees test ts a b s.1 keeps has)

-- ** Forms that end with one.

-- each look in the form stops at a brace
abbrev pub stops : {Goal : Type 0} → Form Goal → Bool
stops form = looks test_stops (λ asked. true) (λ f. false) form

abbrev pub AllStop : {Goal : Type 0} → Productions Goal → Type 0
AllStop {Goal = Goal} grammar = (asked : Goal) → stops (grammar asked) ≡ true

-- neither takes a token nor looks at one
abbrev pub is_still : {Goal : Type 0} → Form Goal → Bool
is_still (seal kind) = true
is_still (f then g) = is_still f && is_still g
is_still nothing = true
is_still (check condition) = true
is_still _ = false

-- the last token that the form takes is a brace that closes
abbrev pub closes : {Goal : Type 0} → Form Goal → Bool
closes (one whole ks) = every (λ kind. same_kind kind k.R_CURLY) ks
closes (f then g) = closes g || (closes f && is_still g)
closes _ = false

still_anywhere : {Goal : Type 0} (grammar : Productions Goal) (form : Form Goal) (x z : Forest) (us rest b : List Token) → is_still form ≡ true
    → Fits grammar form x z us rest → Fits grammar form x z us b
still_anywhere grammar (seal kind) x _ _ rest b is sealed = sealed
still_anywhere grammar (f then g) x z _ rest b is (behind {y = y} {us = us} {vs = vs} h t) =
    let halves = and_parts (is_still f) (is_still g) is in
    behind (still_anywhere grammar f x y us (vs ++ rest) (vs ++ b) halves.0 h) (still_anywhere grammar g y z vs rest b halves.1 t)
still_anywhere grammar nothing x _ _ rest b is none = none
still_anywhere grammar (check condition) x _ _ rest b is (checked h) = checked h
still_anywhere grammar _ x z us rest b is f = absurd (cc)

taken_brace : (whole : Bool) (ks : List SyntaxKind) (t : Token) → every (λ kind. same_kind kind k.R_CURLY) ks ≡ true → is_one whole ks t ≡ true
    → same_kind t.joined k.R_CURLY ≡ true
taken_brace true ks t all is = every_mem (λ kind. same_kind kind k.R_CURLY) t.joined ks all is
taken_brace false ks t all is = every_mem (λ kind. same_kind kind k.R_CURLY) t.joined ks all (and_parts (mem t.joined ks) (mem t.kind ks) is).0

closed_has_closing : {Goal : Type 0} (grammar : Productions Goal) (form : Form Goal) (x z : Forest) (us rest : List Token) → closes form ≡ true
    → Fits grammar form x z us rest → has_closing us ≡ true
closed_has_closing grammar (one whole ks) x _ _ rest closed (token {t = t} {us = us} is n) =
    or_left (same_kind t.joined k.R_CURLY) (has_closing us) (taken_brace whole ks t closed is)
closed_has_closing grammar (f then g) x z _ rest closed (behind {y = y} {us = us} {vs = vs} h t) =
    elim (or_cases (closes g) (closes f && is_still g) closed) [
      | inl last ↦ has_closing_behind us vs (closed_has_closing grammar g y z vs rest last t)
      | inr front ↦ has_closing_front us vs (closed_has_closing grammar f x y us (vs ++ rest) (and_parts (closes f) (is_still g) front).0 h)
    ]
closed_has_closing grammar _ x z us rest closed f = absurd (cc)

-- in front of a brace, no look tells what stands behind it
sight : {Goal : Type 0} (grammar : Productions Goal) → AllStop grammar → (vs a b : List Token) → has_closing vs ≡ true
    → SameSight grammar test_stops (λ asked. true) (λ f. false) (λ ts. keeps_braces (ts ++ vs) ≡ true) (vs ++ a) (vs ++ b)
sight grammar all vs a b has = record {
  agree = λ test ts halts keeps.
      ap (passes test) (sym (append_assoc ts vs a))
      ∙ test_agrees test (ts ++ vs) a b halts keeps (has_closing_behind ts vs has)
      ∙ ap (passes test) (append_assoc ts vs b);
  further = λ us ts keeps. keeps_behind us (ts ++ vs) (ap keeps_braces (sym (append_assoc us ts vs)) ∙ keeps);
  known = λ asked near. all asked;
  over = λ form x z us ts no keeps f. absurd (cc);
}

before_brace : {Goal : Type 0} (grammar : Productions Goal) → AllStop grammar → (form : Form Goal) (x y : Forest) (us vs a b : List Token)
    → stops form ≡ true → keeps_braces (us ++ vs) ≡ true → has_closing vs ≡ true → Fits grammar form x y us (vs ++ a) → Fits grammar form x y us (vs ++ b)
before_brace grammar all form x y us vs a b halts keeps has f =
    ahead grammar test_stops (λ asked. true) (λ f. false) (λ ts. keeps_braces (ts ++ vs) ≡ true) (vs ++ a) (vs ++ b) (sight grammar all vs a b has)
    form x y us (vs ++ a) [] halts refl (ap (λ w. keeps_braces (w ++ vs)) (append-nil us) ∙ keeps) f

pub closing : {Goal : Type 0} (grammar : Productions Goal) → AllStop grammar → (form : Form Goal) (x z : Forest) (us rest b : List Token)
    → closes form ≡ true → stops form ≡ true → keeps_braces us ≡ true → Fits grammar form x z us rest → Fits grammar form x z us b
closing grammar all (one whole ks) x _ _ rest b closed halts keeps (token {t = t} {us = us} is n) = token is n
closing grammar all (f then g) x z _ rest b closed halts keeps (behind {y = y} {us = us} {vs = vs} h t) =
    let halves = and_parts (stops f) (stops g) halts in
    elim (or_cases (closes g) (closes f && is_still g) closed) [
      | inl last ↦ behind
          (before_brace grammar all f x y us vs rest b halves.0 keeps (closed_has_closing grammar g y z vs rest last t) h)
          (closing grammar all g y z vs rest b last halves.1 (keeps_behind us vs keeps) t)
      | inr front ↦
          let ends = and_parts (closes f) (is_still g) front in
          behind (closing grammar all f x y us (vs ++ rest) (vs ++ b) ends.0 halves.0 (keeps_front us vs keeps) h) (still_anywhere grammar g y z vs rest b ends.1 t)
    ]
closing grammar all _ x z us rest b closed halts keeps f = absurd (cc)
