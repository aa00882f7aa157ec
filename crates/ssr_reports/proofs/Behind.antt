-- Places behind a place.
use Rattle.std.proofs.Common.{ℕ, ◌≡◌, ◌+◌, ◌-◌, ◌≤◌, Bool, true, false, not, List, [], ◌∷◌, ◌++◌, reverse, take, drop, count_by, refl, sym, ◌∙◌, ap, arith, append-nil}
use Rattle.std.specs.List.{take_while}
use Rattle.std.proofs.Math.Bool.{cond}
use Rattle.std.proofs.Math.Seq.{take-add}
use Rattle.std.proofs.lemmas.List.{reverse-append}
use Rattle.std.proofs.lemmas.List.Sums.{sum_by-append, sum_by-cons, take_while-cons}
use Rattle.std.proofs.lemmas.List.Sorted.{IsPermutation-reverse, sum_by-IsPermutation}
use Rattle.ssr_reports.specs.Places.{is_line_break, begins_character, last_line, line_of, column_of}

abbrev stays : ℕ → Bool
stays b = not (is_line_break b)

abbrev one : ℕ → ℕ
one b = cond (is_line_break b) 1 0

on : (b : Bool) (x : ℕ) (rest whole : List ℕ) (n : ℕ) → cond b 1 0 + n ≡ 0 → (n ≡ 0 → rest ≡ whole) → cond (not b) (x ∷ rest) [] ≡ x ∷ whole
on true x rest whole n none same = absurd (omega (arith, none))
on false x rest whole n none same = ap (λ (xs : List ℕ). x ∷ xs) (same (omega (arith, none)))

-- bytes without a line break stand on one line with what comes behind them
goes_on : (xs ys : List ℕ) → count_by is_line_break xs ≡ 0 → take_while stays (xs ++ ys) ≡ xs ++ take_while stays ys
goes_on [] ys none = refl
goes_on (x ∷ xs) ys none =
    take_while-cons stays x (xs ++ ys)
    ∙ on (is_line_break x) x (take_while stays (xs ++ ys)) (xs ++ take_while stays ys) (count_by is_line_break xs) (sym (sum_by-cons one x xs) ∙ none) (goes_on xs ys)

off : (b : Bool) (x : ℕ) (rest whole : List ℕ) (n : ℕ) → (cond b 1 0 + n ≡ 0 → ⊥) → ((n ≡ 0 → ⊥) → rest ≡ whole)
    → cond (not b) (x ∷ rest) [] ≡ cond (not b) (x ∷ whole) []
off true x rest whole n some same = refl
off false x rest whole n some same = ap (λ (xs : List ℕ). x ∷ xs) (same (λ none. some (omega (arith, none))))

-- a line ends in bytes with a line break
ends : (xs ys : List ℕ) → (count_by is_line_break xs ≡ 0 → ⊥) → take_while stays (xs ++ ys) ≡ take_while stays xs
ends [] ys some = absurd (some refl)
ends (x ∷ xs) ys some =
    take_while-cons stays x (xs ++ ys)
    ∙ (off (is_line_break x) x (take_while stays (xs ++ ys)) (take_while stays xs) (count_by is_line_break xs) (λ none. some (sum_by-cons one x xs ∙ none)) (ends xs ys)
    ∙ sym (take_while-cons stays x xs))

breaks-reverse : (xs : List ℕ) → count_by is_line_break (reverse xs) ≡ count_by is_line_break xs
breaks-reverse xs = sum_by-IsPermutation one xs (reverse xs) (IsPermutation-reverse xs)

module _ (text bytes : List ℕ) (at offset : ℕ) (same : bytes ≡ text) (order : at ≤ offset) where
  abbrev pub between : List ℕ
  between = take (offset - at) (drop at bytes)

  joined : take offset text ≡ take at text ++ between
  joined = ap (λ (n : ℕ). take n text) (omega (arith, order)) ∙ (take-add at (offset - at) text ∙ ap (λ (t : List ℕ). take at text ++ take (offset - at) (drop at t)) (sym same))

  turned : reverse (take offset text) ≡ reverse between ++ reverse (take at text)
  turned = ap reverse joined ∙ reverse-append (take at text) between

  pub line_behind : line_of text at + count_by is_line_break between ≡ line_of text offset
  line_behind = omega (arith, ap (count_by is_line_break) joined ∙ sum_by-append one (take at text) between)

  own_line : count_by is_line_break between ≡ 0 → last_line between ≡ reverse between
  own_line none =
      ap (take_while stays) (sym (append-nil (reverse between))) ∙ (goes_on (reverse between) [] (breaks-reverse between ∙ none) ∙ append-nil (reverse between))

  line_on : count_by is_line_break between ≡ 0 → last_line (take offset text) ≡ last_line between ++ last_line (take at text)
  line_on none =
      ap (take_while stays) turned
      ∙ (goes_on (reverse between) (reverse (take at text)) (breaks-reverse between ∙ none) ∙ ap (λ (xs : List ℕ). xs ++ last_line (take at text)) (sym (own_line none)))

  pub column_on : count_by is_line_break between ≡ 0 → column_of text at + count_by begins_character (last_line between) ≡ column_of text offset
  column_on none =
      omega (arith, ap (count_by begins_character) (line_on none) ∙ sum_by-append (λ b. cond (begins_character b) 1 0) (last_line between) (last_line (take at text)))

  pub column_anew : (count_by is_line_break between ≡ 0 → ⊥) → count_by begins_character (last_line between) + 1 ≡ column_of text offset
  column_anew some =
      ap (λ (xs : List ℕ). count_by begins_character xs + 1)
      (sym (ap (take_while stays) turned ∙ ends (reverse between) (reverse (take at text)) (λ none. some (sym (breaks-reverse between) ∙ none))))
