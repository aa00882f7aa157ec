-- The number token behind a point and behind a sign.
use Rattle.std.proofs.Common.{◌≡◌, ℕ, suc, ◌+◌, ◌-◌, true, false, not, ◌&&◌, [], ◌∷◌, ◌++◌, length, take, drop, ap, ◌∙◌, arith, append_assoc, length-append}
use Rattle.std.specs.List.{list_all}
use Rattle.std.specs.Option.{option_map_or}
use Rattle.std.proofs.lemmas.Bool.{eqb-true, and_parts}
use Rattle.ssr_syntax_lex.specs.Cursor.{Chars, passes_at, stand_at, run, past}
use Rattle.ssr_syntax_lex.specs.Characters.{the_char, is_digit_or_underscore, is_exponent_mark, continues_word}
use Rattle.ssr_syntax_lex.specs.Numbers.{Part, with_run, ends_with_exponent_mark, takes_point, is_signed_digit, takes_sign}
use Rattle.ssr_syntax_lex.proofs.NumberLaws.{plain_no_radix, at_append, last_at}

fraction_goes : (text : Chars) (m : ℕ) (ms : Chars) → ends_with_exponent_mark (text ++ the_char "." ∷ m ∷ ms) ≡ ends_with_exponent_mark (m ∷ ms)
fraction_goes text m ms =
    let place : length (text ++ the_char "." ∷ m ∷ ms) - 1 ≡ length text + suc (length (m ∷ ms) - 1) = omega (arith, length-append text (the_char "." ∷ m ∷ ms)) in
    ap (λ i. passes_at i is_exponent_mark (text ++ the_char "." ∷ m ∷ ms)) place
    ∙ ap (λ c. option_map_or is_exponent_mark c false) (at_append text (the_char "." ∷ m ∷ ms) (suc (length (m ∷ ms) - 1)))

-- the last character of what stands behind a point is the whole's
fraction_end : (text more : Chars) → ends_with_exponent_mark (text ++ the_char "." ∷ more) ≡ ends_with_exponent_mark more
fraction_end text [] = ap (λ c. option_map_or is_exponent_mark c false) (last_at text (the_char "."))
fraction_end text (m ∷ ms) = fraction_goes text m ms

at_front : (c : ℕ) (cs : Chars) → stand_at 0 (c ∷ []) cs ≡ true → take 1 cs ≡ c ∷ []
at_front c [] h = absurd (cc)
at_front c (d ∷ cs) h = ap (λ x. x ∷ []) (eqb-true d c h)

sign_laws : (text more rest : Chars) → list_all is_digit_or_underscore text ≡ true → takes_sign (text ++ the_char "." ∷ more, rest) ≡ (ends_with_exponent_mark more && is_signed_digit rest)
sign_laws text more rest plain =
    ap (λ b. not b && ends_with_exponent_mark (text ++ the_char "." ∷ more) && is_signed_digit rest) (plain_no_radix text more plain)
    ∙ ap (λ b. b && is_signed_digit rest) (fraction_end text more)

pointed_text : (part : Part) → take 1 part.1 ≡ the_char "." ∷ [] → (with_run 1 part).0 ≡ part.0 ++ the_char "." ∷ run continues_word (drop 1 part.1)
pointed_text part e =
    ap (λ xs. part.0 ++ xs ++ run continues_word (drop 1 part.1)) e ∙ append_assoc part.0 (the_char "." ∷ []) (run continues_word (drop 1 part.1))

pub pointed_sign : (part : Part) → takes_point part ≡ true → takes_sign (with_run 1 part) ≡ (ends_with_exponent_mark (run continues_word (drop 1 part.1)) && is_signed_digit (past continues_word (drop 1 part.1)))
pointed_sign part takes =
    let front = and_parts _ _ (and_parts _ _ (and_parts _ _ takes).0).0 in
    let text = pointed_text part (at_front (the_char ".") part.1 front.1) in
    ap (λ (xs : Chars). takes_sign (xs, past continues_word (drop 1 part.1))) text
    ∙ sign_laws part.0 (run continues_word (drop 1 part.1)) (past continues_word (drop 1 part.1)) front.0
