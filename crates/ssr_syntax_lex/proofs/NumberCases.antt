-- The number at the front, by the run that it begins with and what the code finds behind it.
use Rattle.std.proofs.Common.{◌≡◌, ℕ, suc, ◌-◌, ◌==◌, Bool, true, false, not, ◌&&◌, ◌||◌, if◌then◌else◌, [], ◌∷◌, length, drop, refl, sym, ap, subst, ◌∙◌, arith, ne_eqb}
use Rattle.std.specs.List.{list_all}
use Rattle.std.proofs.lemmas.Bool.{and_parts, and_right, eqb-true}
use Rattle.ssr_syntax_lex.specs.Private.Steps.{comes_point}
use Rattle.ssr_syntax_lex.specs.Cursor.{Chars, passes_at, begins, is_at, run, past}
use Rattle.ssr_syntax_lex.specs.Characters.{is_digit, is_digit_or_underscore, is_exponent_mark, starts_word, continues_word}
use Rattle.ssr_syntax_lex.specs.Numbers.{Part, with_run, has_radix, ends_with_exponent_mark, takes_point, is_signed_digit, takes_sign, has_exponent, whole_run, with_point, with_sign, number_kind, number}
use Rattle.ssr_syntax_kinds.specs.declared.kinds.SyntaxKind.TheVariants as k
use Rattle.ssr_syntax_lex.proofs.PointLaws.{pointed_sign}
use Rattle.ssr_syntax_lex.proofs.NumberLaws.{all_passed, no_mark}

whole_is : (cs text rest : Chars) → text ≡ run continues_word cs → rest ≡ past continues_word cs → ◌≡◌ {A = Part} (text, rest) (whole_run cs)
whole_is cs text rest t r =
    subst (λ (x : Chars). ◌≡◌ {A = Part} (x, rest) (whole_run cs)) (sym t)
    (subst (λ (y : Chars). ◌≡◌ {A = Part} (run continues_word cs, y) (whole_run cs)) (sym r) refl)

number_at : (dots : ℕ) (cs : Chars) → (dots ≡ 1 → ⊥) → number dots cs ≡ (number_kind (whole_run cs), (with_sign (with_point (whole_run cs))).1)
unfolding number
number_at dots cs one =
    ap (λ b. if b then (k.INT_NUMBER, past is_digit cs) else (number_kind (whole_run cs), (with_sign (with_point (whole_run cs))).1)) (ne_eqb dots 1 one)

float_point : (w : Part) → takes_point w ≡ true → number_kind w ≡ k.FLOAT_NUMBER
float_point w point =
    ap (λ b. if b || takes_sign (with_point w) || has_exponent (with_sign (with_point w)).0 then k.FLOAT_NUMBER else k.INT_NUMBER) point

rest_point : (w : Part) (signed : Bool) → takes_point w ≡ true → takes_sign (with_run 1 w) ≡ signed → (with_sign (with_point w)).1 ≡ (if signed then with_run 2 (with_run 1 w) else with_run 1 w).1
rest_point w signed point sign =
    ap (λ p. (with_sign p).1) (ap (λ b. if b then with_run 1 w else w) point)
    ∙ ap (λ b. (if b then with_run 2 (with_run 1 w) else with_run 1 w).1) sign

no_point : (w : Part) → takes_point w ≡ false → with_point w ≡ w
no_point w point = ap (λ b. if b then with_run 1 w else w) point

float_sign : (w : Part) → takes_point w ≡ false → takes_sign w ≡ true → number_kind w ≡ k.FLOAT_NUMBER
float_sign w point sign =
    ap (λ b. if b || takes_sign (with_point w) || has_exponent (with_sign (with_point w)).0 then k.FLOAT_NUMBER else k.INT_NUMBER) point
    ∙ ap (λ b. if b || has_exponent (with_sign (with_point w)).0 then k.FLOAT_NUMBER else k.INT_NUMBER) (ap takes_sign (no_point w point) ∙ sign)

rest_sign : (w : Part) → takes_point w ≡ false → takes_sign w ≡ true → (with_sign (with_point w)).1 ≡ (with_run 2 w).1
rest_sign w point sign =
    ap (λ p. (with_sign p).1) (no_point w point) ∙ ap (λ b. (if b then with_run 2 w else w).1) sign

pub float_by_point : (dots : ℕ) (cs text rest : Chars) → (dots ≡ 1 → ⊥) → text ≡ run continues_word cs → rest ≡ past continues_word cs → takes_point (text, rest) ≡ true → k.FLOAT_NUMBER ≡ (number dots cs).0
float_by_point dots cs text rest one t r point =
    let here : takes_point (whole_run cs) ≡ true = subst (λ (w : Part). takes_point w ≡ true) (whole_is cs text rest t r) point in
    sym (ap (λ n. n.0) (number_at dots cs one) ∙ float_point (whole_run cs) here)

either : (signed : Bool) (w : Part) → (if signed then with_run 2 w else w).1 ≡ (if signed then past continues_word (drop 2 w.1) else w.1)
either true w = refl
either false w = refl

pub rest_by_point : (dots : ℕ) (cs text rest fraction behind : Chars) (signed : Bool) → (dots ≡ 1 → ⊥) → text ≡ run continues_word cs → rest ≡ past continues_word cs → takes_point (text, rest) ≡ true → fraction ≡ run continues_word (drop 1 rest) → behind ≡ past continues_word (drop 1 rest) → (ends_with_exponent_mark fraction && is_signed_digit behind) ≡ signed → (if signed then past continues_word (drop 2 behind) else behind) ≡ (number dots cs).1
rest_by_point dots cs text rest fraction behind signed one t r point f b sign =
    let w : Part = (text, rest) in
    let same : ◌≡◌ {A = Part} (text, rest) (whole_run cs) = whole_is cs text rest t r in
    let tested : (ends_with_exponent_mark fraction && is_signed_digit behind) ≡ (ends_with_exponent_mark (run continues_word (drop 1 rest)) && is_signed_digit (past continues_word (drop 1 rest))) =
    ap (λ xs. ends_with_exponent_mark xs && is_signed_digit behind) f ∙ ap (λ xs. ends_with_exponent_mark (run continues_word (drop 1 rest)) && is_signed_digit xs) b in
    let taken : takes_sign (with_run 1 (text, rest)) ≡ signed = pointed_sign (text, rest) point ∙ (sym tested ∙ sign) in
    let here : (with_sign (with_point (text, rest))).1 ≡ (if signed then with_run 2 (with_run 1 (text, rest)) else with_run 1 (text, rest)).1 = rest_point (text, rest) signed point taken in
    sym (ap (λ n. n.1) (number_at dots cs one)
    ∙ (ap (λ (p : Part). (with_sign (with_point p)).1) (sym same)
    ∙ (here
    ∙ (either signed (with_run 1 (text, rest))
    ∙ ap (λ xs. if signed then past continues_word (drop 2 xs) else xs) (sym b)))))

pub float_by_sign : (dots : ℕ) (cs text rest : Chars) → (dots ≡ 1 → ⊥) → text ≡ run continues_word cs → rest ≡ past continues_word cs → takes_point (text, rest) ≡ false → takes_sign (text, rest) ≡ true → k.FLOAT_NUMBER ≡ (number dots cs).0
float_by_sign dots cs text rest one t r point sign =
    let same = whole_is cs text rest t r in
    sym (ap (λ n. n.0) (number_at dots cs one) ∙ (ap number_kind (sym same) ∙ float_sign (text, rest) point sign))

pub rest_by_sign : (dots : ℕ) (cs text rest : Chars) → (dots ≡ 1 → ⊥) → text ≡ run continues_word cs → rest ≡ past continues_word cs → takes_point (text, rest) ≡ false → takes_sign (text, rest) ≡ true → past continues_word (drop 2 rest) ≡ (number dots cs).1
rest_by_sign dots cs text rest one t r point sign =
    let same = whole_is cs text rest t r in
    sym (ap (λ n. n.1) (number_at dots cs one) ∙ (ap (λ (p : Part). (with_sign (with_point p)).1) (sym same) ∙ rest_sign (text, rest) point sign))

-- ** A run of digits and `_`.

pub point_at : (text rest : Chars) (point : Bool) → list_all is_digit_or_underscore text ≡ true → comes_point rest ≡ point → takes_point (text, rest) ≡ point
point_at text rest point plain comes =
    ap (λ b. b && begins "." rest && not (is_at 1 "." rest) && not (passes_at 1 starts_word rest)) plain ∙ comes

pub pointless : (text rest : Chars) → list_all is_digit_or_underscore text ≡ false → takes_point (text, rest) ≡ false
pointless text rest plain =
    ap (λ b. b && begins "." rest && not (is_at 1 "." rest) && not (passes_at 1 starts_word rest)) plain

no_exponent_mark : (c : ℕ) → is_digit_or_underscore c ≡ true → is_exponent_mark c ≡ false
no_exponent_mark c plain = rw (no_mark c 101 plain refl, no_mark c 69 plain refl) refl

-- it doesn't end with `e` or `E`
plain_end : (text : Chars) → list_all is_digit_or_underscore text ≡ true → ends_with_exponent_mark text ≡ false
plain_end [] plain = refl
plain_end (c ∷ []) plain = no_exponent_mark c (and_parts _ _ plain).0
plain_end (c ∷ d ∷ cs) plain =
    let place : length (c ∷ d ∷ cs) - 1 ≡ suc (length (d ∷ cs) - 1) = omega arith in
    ap (λ i. passes_at i is_exponent_mark (c ∷ d ∷ cs)) place ∙ plain_end (d ∷ cs) (and_parts _ _ plain).1

-- nor has it one behind its digits
nothing_left : (cs : Chars) → (length cs == 0) ≡ true → passes_at 0 is_exponent_mark cs ≡ false
nothing_left [] e = refl
nothing_left (c ∷ cs) e = absurd (omega (arith, eqb-true (length (c ∷ cs)) 0 e))

plain_sign : (text rest : Chars) → list_all is_digit_or_underscore text ≡ true → takes_sign (text, rest) ≡ false
plain_sign text rest plain =
    ap (λ b. b && is_signed_digit rest) (and_right (not (has_radix text)) _ (plain_end text plain))

plain_exponent : (text : Chars) → list_all is_digit_or_underscore text ≡ true → has_exponent text ≡ false
plain_exponent text plain =
    and_right (not (has_radix text)) _ (nothing_left (past is_digit_or_underscore text) (sym (all_passed is_digit_or_underscore text) ∙ plain))

int_kind : (w : Part) → takes_point w ≡ false → takes_sign w ≡ false → has_exponent w.0 ≡ false → number_kind w ≡ k.INT_NUMBER
int_kind w point sign exponent =
    ap (λ b. if b || takes_sign (with_point w) || has_exponent (with_sign (with_point w)).0 then k.FLOAT_NUMBER else k.INT_NUMBER) point
    ∙ ap (λ (p : Part). if takes_sign p || has_exponent (with_sign p).0 then k.FLOAT_NUMBER else k.INT_NUMBER) (no_point w point)
    ∙ ap (λ b. if b || has_exponent (if b then with_run 2 w else w).0 then k.FLOAT_NUMBER else k.INT_NUMBER) sign
    ∙ ap (λ b. if b then k.FLOAT_NUMBER else k.INT_NUMBER) exponent

int_rest : (w : Part) → takes_point w ≡ false → takes_sign w ≡ false → (with_sign (with_point w)).1 ≡ w.1
int_rest w point sign =
    ap (λ p. (with_sign p).1) (no_point w point) ∙ ap (λ b. (if b then with_run 2 w else w).1) sign

pub plain_int : (dots : ℕ) (cs text rest : Chars) → (dots ≡ 1 → ⊥) → text ≡ run continues_word cs → rest ≡ past continues_word cs → list_all is_digit_or_underscore text ≡ true → comes_point rest ≡ false → k.INT_NUMBER ≡ (number dots cs).0
plain_int dots cs text rest one t r plain point =
    let same = whole_is cs text rest t r in
    sym (ap (λ n. n.0) (number_at dots cs one) ∙ (ap number_kind (sym same)
    ∙ int_kind (text, rest) (point_at text rest false plain point) (plain_sign text rest plain) (plain_exponent text plain)))

pub plain_rest : (dots : ℕ) (cs text rest : Chars) → (dots ≡ 1 → ⊥) → text ≡ run continues_word cs → rest ≡ past continues_word cs → list_all is_digit_or_underscore text ≡ true → comes_point rest ≡ false → rest ≡ (number dots cs).1
plain_rest dots cs text rest one t r plain point =
    let same = whole_is cs text rest t r in
    sym (ap (λ n. n.1) (number_at dots cs one) ∙ (ap (λ (p : Part). (with_sign (with_point p)).1) (sym same)
    ∙ int_rest (text, rest) (point_at text rest false plain point) (plain_sign text rest plain)))
