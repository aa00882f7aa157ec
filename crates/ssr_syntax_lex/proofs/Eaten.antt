-- What a run of characters is in the bytes of a text, for the loop that passes over one.
use Rattle.std.proofs.Common.{◌≡◌, ℕ, ◌-◌, ◌<◌, ◌≤◌, ◌==◌, Bool, true, false, if◌then◌else◌, List, [], ◌∷◌, ◌++◌, length, take, drop, refl, sym, ap, subst, ◌∙◌, arith, append_assoc, length-append}
use Rattle.std.proofs.lemmas.List.{append_cancel_right, append-nil}
use Rattle.std.proofs.Math.Seq.{take-append_seam, drop-append_seam}
use Rattle.std.proofs.lemmas.Bool.Decides.{nat_tests}
use Rattle.std.proofs.lemmas.Str.{chars-append, chars-nil, chars_past_char, IsCharBoundary-from_take, IsUtf8-drop, encodes-chars, length-encode, len_utf8_bounds, IsCharBoundary-at_seam, length-le-encodes}
use Rattle.std.specs.Str.{chars, IsUtf8, IsCharBoundary}
use Rattle.std.specs.Prelude.{encode_utf8, encode_utf8_all, slice_range}
use Rattle.ssr_syntax_lex.specs.Cursor.{Chars, run, past}

-- what is left is the end of the text
abbrev pub EndsIn : List ℕ → List ℕ → Type 0
EndsIn text rest = (taken : List ℕ) × (text ≡ taken ++ rest)

pub EndsIn-step : (text rest behind : List ℕ) (c : ℕ) → EndsIn text rest → rest ≡ encode_utf8 c ++ behind → EndsIn text behind
EndsIn-step text rest behind c (taken, e) step =
    (taken ++ encode_utf8 c, e ∙ (ap (λ bytes. taken ++ bytes) step ∙ sym (append_assoc taken (encode_utf8 c) behind)))

-- how long the part in front of the rest is, and where it may be cut
seam : (text rest taken : List ℕ) → text ≡ taken ++ rest → length text - length rest ≡ length taken
seam text rest taken e = omega (arith, ap length e, length-append taken rest)

pub EndsIn-boundary : (text rest : List ℕ) → EndsIn text rest → IsUtf8 rest → IsCharBoundary text (length text - length rest)
EndsIn-boundary text rest (taken, e) utf8 =
    subst (IsCharBoundary text) (sym (seam text rest taken e)) (IsCharBoundary-at_seam text taken rest e utf8)

pub EndsIn-front : (text rest : List ℕ) → EndsIn text rest → text ≡ take (length text - length rest) text ++ rest
EndsIn-front text rest (taken, e) =
    let front : take (length text - length rest) text ≡ taken =
    ap (λ n. take n text) (seam text rest taken e) ∙ (ap (take (length taken)) e ∙ take-append_seam taken rest) in
    e ∙ ap (λ bytes. bytes ++ rest) (sym front)

encode_not_empty : (c : ℕ) → 1 ≤ length (encode_utf8 c)
encode_not_empty c = omega (arith, length-encode c, len_utf8_bounds c)

pub length-past_char : (rest behind : List ℕ) (c : ℕ) → rest ≡ encode_utf8 c ++ behind → length behind < length rest
length-past_char rest behind c step =
    omega (arith, ap length step, length-append (encode_utf8 c) behind, encode_not_empty c)

not_zero : (n : ℕ) → 1 ≤ n → (n == 0) ≡ false
not_zero n h = grind (arith, nat_tests)

pub not_empty : (c : ℕ) (cs : Chars) → (length (c ∷ cs) == 0) ≡ false
not_empty c cs = not_zero (length (c ∷ cs)) (omega arith)

pub nothing_left : (cs : Chars) → (length (encode_utf8_all cs) == 0) ≡ (length cs == 0)
nothing_left [] = refl
nothing_left (c ∷ cs) =
    not_zero (length (encode_utf8_all (c ∷ cs))) (omega (arith, length-append (encode_utf8 c) (encode_utf8_all cs), encode_not_empty c))
    ∙ sym (not_empty c cs)

-- the run and what follows it are the whole
pub run-past : (test : ℕ → Bool) (cs : Chars) → run test cs ++ past test cs ≡ cs
run-past test [] = refl
run-past test (c ∷ cs) =
    elim (test c) as (λ b. (if b then c ∷ run test cs else []) ++ (if b then past test cs else (c ∷ cs)) ≡ c ∷ cs) [
      | true ↦ ap (λ xs. c ∷ xs) (run-past test cs)
      | false ↦ refl
    ]

pub past-passes : (test : ℕ → Bool) (cs : Chars) (c : ℕ) (behind : Chars) → cs ≡ c ∷ behind → test c ≡ true → past test cs ≡ past test behind
past-passes test cs c behind e passes =
    ap (past test) e ∙ ap (λ b. if b then past test behind else (c ∷ behind)) passes

pub past-stops : (test : ℕ → Bool) (cs : Chars) (c : ℕ) (behind : Chars) → cs ≡ c ∷ behind → test c ≡ false → past test cs ≡ cs
past-stops test cs c behind e fails =
    ap (past test) e ∙ (ap (λ b. if b then past test behind else (c ∷ behind)) fails ∙ sym e)

pub past-ends : (test : ℕ → Bool) (cs : Chars) → cs ≡ [] → past test cs ≡ cs
past-ends test cs e = ap (past test) e ∙ sym e

whole_range : (text : List ℕ) (n : ℕ) → slice_range text 0 n ≡ take n text
whole_range text n = grind arith

-- the characters in front of what is left are the run, where what is left is past it
pub eaten_run : (test : ℕ → Bool) (text rest eaten : List ℕ) → IsUtf8 eaten → EndsIn text rest → eaten ≡ slice_range text 0 (length text - length rest) → past test (chars text) ≡ chars rest → chars eaten ≡ run test (chars text)
eaten_run test text rest eaten utf8 ends is after =
    let parts : text ≡ eaten ++ rest = EndsIn-front text rest ends ∙ ap (λ bytes. bytes ++ rest) (sym (is ∙ whole_range text (length text - length rest))) in
    let whole : chars text ≡ chars eaten ++ chars rest = ap chars parts ∙ chars-append eaten rest utf8 in
    append_cancel_right (chars eaten) (run test (chars text)) (chars rest)
    (sym whole ∙ (sym (run-past test (chars text)) ∙ ap (λ cs. run test (chars text) ++ cs) after))

pub last_of_text : (text front : List ℕ) (c : ℕ) → IsUtf8 text → IsUtf8 front → text ≡ front ++ encode_utf8 c → chars text ≡ chars front ++ c ∷ []
last_of_text text front c utf8 front_utf8 e =
    let cut : take (length front) text ≡ front = ap (take (length front)) e ∙ take-append_seam front (encode_utf8 c) in
    let behind : drop (length front) text ≡ encode_utf8 c = ap (drop (length front)) e ∙ drop-append_seam front (encode_utf8 c) in
    let within : length front ≤ length text = omega (arith, ap length e, length-append front (encode_utf8 c)) in
    let boundary : IsCharBoundary text (length front) = IsCharBoundary-from_take text (length front) utf8 within (subst IsUtf8 (sym cut) front_utf8) in
    let last_utf8 : IsUtf8 (encode_utf8 c) = subst IsUtf8 behind (IsUtf8-drop text (length front) utf8 boundary) in
    let last : chars (encode_utf8 c) ≡ c ∷ [] =
    chars_past_char (encode_utf8 c) [] c last_utf8 (sym (append-nil (encode_utf8 c))) ∙ ap (λ cs. c ∷ cs) chars-nil in
    ap chars e ∙ (chars-append front (encode_utf8 c) front_utf8 ∙ ap (λ cs. chars front ++ cs) last)

pub nothing_in : (text : List ℕ) → length text ≡ 0 → chars text ≡ []
nothing_in [] h = chars-nil
nothing_in (b ∷ bs) h = absurd (omega arith)

-- a text has no more characters than bytes
pub chars_small : (text : List ℕ) (n : ℕ) → IsUtf8 text → length text < n → length (chars text) < n
chars_small text n utf8 h = omega (arith, length-le-encodes (chars text), ap length (encodes-chars text utf8))
