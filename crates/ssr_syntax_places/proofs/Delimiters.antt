-- No look of an expression tells one delimiter from another, or from the end.
use Rattle.std.proofs.Common.{◌≡◌, ℕ, zero, suc, ◌-◌, ◌≤◌, nat_le, Bool, true, false, not, ◌&&◌, ◌||◌, List, [], ◌∷◌, ◌++◌, length, take, drop, refl, sym, ap, ◌∙◌}
use Rattle.std.proofs.lemmas.List.{append-nil, drop-append-le}
use Rattle.std.proofs.lemmas.Bool.{and_from, and_left, and_parts, leb-true, not-true, or_from, or_parts}
use Rattle.ssr_syntax_kinds.specs.declared.kinds.SyntaxKind.{SyntaxKind}
use Rattle.ssr_syntax_kinds.specs.declared.kinds.SyntaxKind.TheVariants as k
use Rattle.ssr_syntax_kinds.specs.Kinds.{same_kind}
use Rattle.ssr_syntax_forms.specs.declared.tokens.Token.{Token}
use Rattle.ssr_syntax_forms.specs.Kinds.{mem}
use Rattle.ssr_syntax_forms.specs.Trees.{Forest, done}
use Rattle.ssr_syntax_forms.specs.Forms.{Form, Test, END, Productions, are_next, next, passes}
use Rattle.ssr_syntax_forms.specs.Fitting.{Fits}
use Rattle.ssr_syntax_forms.proofs.Shared.{apart, meets}
use Rattle.ssr_syntax_places.specs.Delimited.{delimiters, braces, has_brace, are_whole}
use Rattle.ssr_syntax_places.specs.Placing.{has_open, keeps_opens}
use Rattle.ssr_syntax_places.proofs.Ahead.{looks, SameSight, ahead}
use Rattle.ssr_syntax_places.proofs.Closing.{has_closing, keeps_braces, keeps_front, stops, AllStop, closes, closing}

-- ** Tokens that are whole.

no_closing : (ts : List Token) → has_brace ts ≡ false → has_closing ts ≡ false
no_closing [] h = refl
no_closing (t ∷ ts) h =
    let halves = or_parts (mem t.joined braces) (has_brace ts) h in
    let here = or_parts (same_kind t.joined k.R_CURLY) false (or_parts (same_kind t.joined k.L_CURLY) (mem t.joined (k.R_CURLY ∷ [])) halves.0).1 in
    or_from (same_kind t.joined k.R_CURLY) (has_closing ts) here.0 (no_closing ts halves.1)

no_open : (ts : List Token) → has_brace ts ≡ false → has_open ts ≡ false
no_open [] h = refl
no_open (t ∷ ts) h =
    let halves = or_parts (mem t.joined braces) (has_brace ts) h in
    let here = or_parts (same_kind t.joined k.L_CURLY) (mem t.joined (k.R_CURLY ∷ [])) halves.0 in
    or_from (same_kind t.joined k.L_CURLY) (has_open ts) here.0 (no_open ts halves.1)

pub whole_opens : (ts : List Token) → are_whole ts ≡ true → keeps_opens ts ≡ true
whole_opens [] h = refl
whole_opens (t ∷ ts) h =
    let halves = and_parts (nat_le (t.size - 1) (length ts) && not (has_brace (take (t.size - 1) ts))) (are_whole ts) h in
    let absent = (and_parts (nat_le (t.size - 1) (length ts)) (not (has_brace (take (t.size - 1) ts))) halves.0).1 in
    and_from (not (has_open (take (t.size - 1) ts))) (keeps_opens ts)
    (ap not (no_open (take (t.size - 1) ts) (not-true (has_brace (take (t.size - 1) ts)) absent))) (whole_opens ts halves.1)

pub whole_keeps : (ts : List Token) → are_whole ts ≡ true → keeps_braces ts ≡ true
whole_keeps [] h = refl
whole_keeps (t ∷ ts) h =
    let halves = and_parts (nat_le (t.size - 1) (length ts) && not (has_brace (take (t.size - 1) ts))) (are_whole ts) h in
    let none = (and_parts (nat_le (t.size - 1) (length ts)) (not (has_brace (take (t.size - 1) ts))) halves.0).1 in
    and_from (not (has_closing (take (t.size - 1) ts))) (keeps_braces ts)
    (ap not (no_closing (take (t.size - 1) ts) (not-true (has_brace (take (t.size - 1) ts)) none))) (whole_keeps ts halves.1)

pub whole_behind : (us vs : List Token) → are_whole (us ++ vs) ≡ true → are_whole vs ≡ true
whole_behind [] vs h = h
whole_behind (t ∷ us) vs h =
    whole_behind us vs (and_parts (nat_le (t.size - 1) (length (us ++ vs)) && not (has_brace (take (t.size - 1) (us ++ vs)))) (are_whole (us ++ vs)) h).1

whole_dropped : (n : ℕ) (ts : List Token) → are_whole ts ≡ true → are_whole (drop n ts) ≡ true
whole_dropped zero ts h = h
whole_dropped (suc n) [] h = refl
whole_dropped (suc n) (t ∷ ts) h =
    whole_dropped n ts (and_parts (nat_le (t.size - 1) (length ts) && not (has_brace (take (t.size - 1) ts))) (are_whole ts) h).1

-- ** Tests that don't ask for a delimiter.

abbrev pub string_passes_over : List (List SyntaxKind) → Bool
string_passes_over [] = true
string_passes_over (ks ∷ string) = not (meets delimiters ks) && string_passes_over string

abbrev pub asks_for_none : Test → Bool
asks_for_none [] = true
asks_for_none (string ∷ test) = string_passes_over string && asks_for_none test

none_next : (ks : List SyntaxKind) (string : List (List SyntaxKind)) (a : List Token) → meets delimiters ks ≡ false → mem (next a) delimiters ≡ true
    → are_next (ks ∷ string) a ≡ false
none_next ks string [] other delimited = and_left (mem END ks) (are_next string []) (apart END delimiters ks other delimited)
none_next ks string (t ∷ ts) other delimited =
    and_left (mem t.joined ks) (are_next string (drop (t.size - 1) ts)) (apart t.joined delimiters ks other delimited)

string_agrees : (string : List (List SyntaxKind)) (ts a b : List Token) → string_passes_over string ≡ true → are_whole ts ≡ true
    → mem (next a) delimiters ≡ true → mem (next b) delimiters ≡ true → are_next string (ts ++ a) ≡ are_next string (ts ++ b)
string_agrees [] ts a b over whole at_a at_b = refl
string_agrees (ks ∷ string) [] a b over whole at_a at_b =
    let other = not-true (meets delimiters ks) (and_parts (not (meets delimiters ks)) (string_passes_over string) over).0 in
    none_next ks string a other at_a ∙ sym (none_next ks string b other at_b)
string_agrees (ks ∷ string) (t ∷ ts) a b over whole at_a at_b =
    let n : ℕ = t.size - 1 in
    let halves = and_parts (nat_le n (length ts) && not (has_brace (take n ts))) (are_whole ts) whole in
    let inside : n ≤ length ts = leb-true n (length ts) (and_parts (nat_le n (length ts)) (not (has_brace (take n ts))) halves.0).0 in
    let further = (and_parts (not (meets delimiters ks)) (string_passes_over string) over).1 in
    let same = string_agrees string (drop n ts) a b further (whole_dropped n ts halves.1) at_a at_b in
    ap (λ w. mem t.joined ks && are_next string w) (drop-append-le n ts a inside)
    ∙ ap (λ w. mem t.joined ks && w) same
    ∙ sym (ap (λ w. mem t.joined ks && are_next string w) (drop-append-le n ts b inside))

test_agrees : (test : Test) (ts a b : List Token) → asks_for_none test ≡ true → are_whole ts ≡ true → mem (next a) delimiters ≡ true
    → mem (next b) delimiters ≡ true → passes test (ts ++ a) ≡ passes test (ts ++ b)
test_agrees [] ts a b over whole at_a at_b = refl
test_agrees (string ∷ test) ts a b over whole at_a at_b =
    let s = and_parts (string_passes_over string) (asks_for_none test) over in
    ap (λ w. w || passes test (ts ++ a)) (string_agrees string ts a b s.0 whole at_a at_b)
    ∙ ap (λ w. are_next string (ts ++ b) || w) (test_agrees test ts a b s.1 whole at_a at_b)

-- ** Goals that ask one another alone.

-- what ends with a brace is passed over
abbrev pub is_passed : {Goal : Type 0} → Form Goal → Bool
is_passed form = closes form && stops form

abbrev pub delimited : {Goal : Type 0} → (Goal → Bool) → Form Goal → Bool
delimited near form = looks asks_for_none near is_passed form

abbrev pub AllDelimited : {Goal : Type 0} → Productions Goal → (Goal → Bool) → Type 0
AllDelimited {Goal = Goal} grammar near = (asked : Goal) → near asked ≡ true → delimited near (grammar asked) ≡ true

sight : {Goal : Type 0} (grammar : Productions Goal) (near : Goal → Bool) → AllStop grammar → AllDelimited grammar near → (a b : List Token)
    → mem (next a) delimiters ≡ true → mem (next b) delimiters ≡ true
    → SameSight grammar asks_for_none near is_passed (λ ts. are_whole ts ≡ true) a b
sight grammar near stop all a b at_a at_b = record {
  agree = λ test ts over whole. test_agrees test ts a b over whole at_a at_b;
  further = λ us ts whole. whole_behind us ts whole;
  known = all;
  over = λ form x z us ts passed whole f.
      let halves = and_parts (closes form) (stops form) passed in
      closing grammar stop form x z us (ts ++ a) (ts ++ b) halves.0 halves.1 (keeps_front us ts (whole_keeps (us ++ ts) whole)) f;
}

pub within : {Goal : Type 0} (grammar : Productions Goal) (near : Goal → Bool) → AllStop grammar → AllDelimited grammar near → (asked : Goal)
    → near asked ≡ true → (z : Forest) (us a b : List Token) → are_whole us ≡ true → mem (next a) delimiters ≡ true → mem (next b) delimiters ≡ true
    → Fits grammar (grammar asked) done z us a → Fits grammar (grammar asked) done z us b
within grammar near stop all asked is z us a b whole at_a at_b f =
    ahead grammar asks_for_none near is_passed (λ ts. are_whole ts ≡ true) a b (sight grammar near stop all a b at_a at_b)
    (grammar asked) done z us a [] (all asked is) refl (ap are_whole (append-nil us) ∙ whole) f
