-- That the tests of the code on the parts of a number are those of the definition on the whole token.
use Rattle.std.proofs.Common.{◌≡◌, ℕ, suc, ◌+◌, ◌-◌, ◌==◌, Bool, true, false, ◌&&◌, ◌||◌, if◌then◌else◌, [], ◌∷◌, ◌++◌, length, refl, sym, ap, ◌∙◌, arith, length-append}
use Rattle.std.specs.List.{list_all}
use Rattle.std.specs.Option.{option_map_or}
use Rattle.std.specs.Prelude.{slice_get, Some}
use Rattle.std.proofs.lemmas.Bool.{eqb-true, and_parts}
use Rattle.ssr_syntax_lex.specs.Cursor.{Chars, passes_at, past}
use Rattle.ssr_syntax_lex.specs.Characters.{◌∈◌, the_char, is_digit_or_underscore}
use Rattle.ssr_syntax_lex.specs.Numbers.{has_radix}
use Rattle.ssr_syntax_lex.proofs.Eaten.{not_empty}

-- all characters pass exactly where nothing is left behind those that do
pub all_passed : (test : ℕ → Bool) (cs : Chars) → list_all test cs ≡ (length (past test cs) == 0)
all_passed test [] = refl
all_passed test (c ∷ cs) =
    elim (test c) as (λ b. (b && list_all test cs) ≡ (length (if b then past test cs else (c ∷ cs)) == 0)) [
      | true ↦ all_passed test cs
      | false ↦ sym (not_empty c cs)
    ]

-- a character that passes is none that doesn't
differs : (test : ℕ → Bool) (d c : ℕ) (b : Bool) → (d == c) ≡ b → test d ≡ true → test c ≡ false → b ≡ false
differs test d c true e passes fails =
    let clash : true ≡ false = sym passes ∙ (ap test (eqb-true d c e) ∙ fails) in absurd (cc)
differs test d c false e passes fails = refl

pub no_mark : (d m : ℕ) → is_digit_or_underscore d ≡ true → is_digit_or_underscore m ≡ false → (d == m) ≡ false
no_mark d m plain mark = differs is_digit_or_underscore d m (d == m) refl plain mark

unmarked : (zero : Bool) → (zero && false || zero && false || zero && false) ≡ false
unmarked true = refl
unmarked false = refl

-- a text of digits and `_` has no radix, nor has one that goes on with a point
pub plain_no_radix : (text more : Chars) → list_all is_digit_or_underscore text ≡ true → has_radix (text ++ the_char "." ∷ more) ≡ false
plain_no_radix [] more plain = refl
plain_no_radix (c ∷ []) more plain = unmarked (c ∈ "0")
plain_no_radix (c ∷ d ∷ cs) more plain =
    let digit = (and_parts _ _ (and_parts _ _ plain).1).0 in
    rw (no_mark d (the_char "x") digit refl, no_mark d (the_char "o") digit refl, no_mark d (the_char "b") digit refl) (unmarked (c ∈ "0"))

pub at_append : (xs ys : Chars) (i : ℕ) → slice_get (xs ++ ys) (length xs + i) ≡ slice_get ys i
at_append [] ys i = ap (slice_get ys) (omega arith)
at_append (x ∷ xs) ys i =
    let next : length (x ∷ xs) + i ≡ suc (length xs + i) = omega arith in
    ap (slice_get (x ∷ (xs ++ ys))) next ∙ at_append xs ys i

pub last_at : (xs : Chars) (c : ℕ) → slice_get (xs ++ c ∷ []) (length (xs ++ c ∷ []) - 1) ≡ Some c
last_at xs c =
    let place : length (xs ++ c ∷ []) - 1 ≡ length xs + 0 = omega (arith, length-append xs (c ∷ [])) in
    ap (slice_get (xs ++ c ∷ [])) place ∙ at_append xs (c ∷ []) 0

pub last_passes : (test : ℕ → Bool) (text front : Chars) (c : ℕ) → text ≡ front ++ c ∷ [] → passes_at (length text - 1) test text ≡ test c
last_passes test text front c e =
    ap (λ cs. passes_at (length cs - 1) test cs) e ∙ ap (λ o. option_map_or test o false) (last_at front c)
