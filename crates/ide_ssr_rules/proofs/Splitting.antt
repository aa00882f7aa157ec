-- Where a search for the delimiter cuts a text.
use Rattle.std.proofs.Common.{◌≡◌, ℕ, suc, ◌<◌, ◌≤◌, List, [], ◌∷◌, ◌++◌, length, take, drop, Some, None, Ok, Err, refl, arith, ap, ◌∙◌, sym, subst, cond, false, eqb}
use Rattle.std.proofs.lemmas.List.{take-append-drop, length-take}
use Rattle.std.proofs.lemmas.Str.Pattern.{starts_text}
use Rattle.std.specs.List.{starts_with}
use Rattle.std.specs.Option.{option_map}
use Rattle.std.specs.Str.{trim}
use Rattle.std.specs.Str.Pattern.{LacksTextAt, FindsText, HasMatch, SplitsAroundMatch}
use Rattle.ide_ssr_refusals.specs.declared.refusals.Refusal.TheVariants as r
use Rattle.ide_ssr_rules.specs.Sides.{delimiter, split_at_delimiter, only, only_split, sides}

no_start : (s : List ℕ) → LacksTextAt delimiter s 0 → starts_with eqb s delimiter ≡ false
no_start s lacks = sym (starts_text false delimiter s lacks)

past_byte : (b : ℕ) (bs : List ℕ) → starts_with eqb (b ∷ bs) delimiter ≡ false
    → split_at_delimiter (b ∷ bs) ≡ option_map (λ (parts : List ℕ × List ℕ). (b ∷ parts.0, parts.1)) (split_at_delimiter bs)
past_byte b bs none =
    ap (λ t. cond t (Some ([], drop (length delimiter) (b ∷ bs))) (option_map (λ (parts : List ℕ × List ℕ). (b ∷ parts.0, parts.1)) (split_at_delimiter bs))) none

pub split_none : (s : List ℕ) → ((i : ℕ) → i ≤ length s → LacksTextAt delimiter s i) → split_at_delimiter s ≡ None
split_none [] lacks = refl
split_none (b ∷ bs) lacks =
    past_byte b bs (no_start (b ∷ bs) (lacks 0 (omega arith)))
    ∙ ap (option_map (λ (parts : List ℕ × List ℕ). (b ∷ parts.0, parts.1))) (split_none bs (λ i small. lacks (suc i) (omega arith)))

pub split_first : (xs ys : List ℕ) → ((i : ℕ) → i < length xs → LacksTextAt delimiter (xs ++ (delimiter ++ ys)) i)
    → split_at_delimiter (xs ++ (delimiter ++ ys)) ≡ Some (xs, ys)
split_first [] ys lacks = refl
split_first (x ∷ xs) ys lacks =
    past_byte x (xs ++ (delimiter ++ ys)) (no_start (x ∷ (xs ++ (delimiter ++ ys))) (lacks 0 (omega arith)))
    ∙ ap (option_map (λ (parts : List ℕ × List ℕ). (x ∷ parts.0, parts.1))) (split_first xs ys (λ i small. lacks (suc i) (omega arith)))

around : (s : List ℕ) (i j : ℕ) → i ≤ length s → FindsText delimiter s (Some (i, j)) → split_at_delimiter s ≡ Some (take i s, drop j s)
around s i j within found =
    let whole : take i s ++ (delimiter ++ drop j s) ≡ s = ap (λ r. take i s ++ r) (sym found.1.split) ∙ take-append-drop i s in
    let long : length (take i s) ≡ i = omega (arith, length-take i s) in
    let lacks : (k : ℕ) → k < length (take i s) → LacksTextAt delimiter (take i s ++ (delimiter ++ drop j s)) k =
    λ k small. subst (λ t. LacksTextAt delimiter t k) (sym whole) (found.0 k (omega arith)) in
    ap split_at_delimiter (sym whole) ∙ split_first (take i s) (drop j s) lacks

pub split_around : (s front back : List ℕ) → SplitsAroundMatch (FindsText delimiter) s front back → split_at_delimiter s ≡ Some (front, back)
split_around s front back (i, j, found, is_front, is_back, before, long, short) =
    around s i j (omega arith) found ∙ ap (λ f. Some (f, drop j s)) (sym is_front) ∙ ap (λ b. Some (front, b)) (sym is_back)

pub split_some : (s : List ℕ) → HasMatch (FindsText delimiter) s → (parts : List ℕ × List ℕ) × (split_at_delimiter s ≡ Some parts)
split_some s (i, j, found, before, within) = ((take i s, drop j s), around s i j (omega arith) found)

pub no_split : (text : List ℕ) → FindsText delimiter text None → sides text ≡ Err r.NoDelimiter
unfolding sides
no_split text lacks = ap only_split (split_none text lacks)

pub second_split : (text front back : List ℕ) → SplitsAroundMatch (FindsText delimiter) text front back → HasMatch (FindsText delimiter) back
    → sides text ≡ Err r.SecondDelimiter
unfolding sides
second_split text front back first second =
    ap only_split (split_around text front back first) ∙ ap (only (front, back)) (split_some back second).1

pub one_split : (text front back : List ℕ) → SplitsAroundMatch (FindsText delimiter) text front back → FindsText delimiter back None
    → sides text ≡ Ok (trim front, trim back)
unfolding sides
one_split text front back first lacks =
    ap only_split (split_around text front back first) ∙ ap (only (front, back)) (split_none back lacks)
