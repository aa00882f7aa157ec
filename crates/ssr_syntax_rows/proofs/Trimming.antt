-- A text without the white space around it is a text, and no longer.
use Rattle.std.proofs.Common.{◌≡◌, ℕ, ◌+◌, ◌≤◌, Bool, true, false, ◌&&◌, ◌==◌, cond, List, [], ◌∷◌, length, length-append, refl, sym, ap, subst, arith}
use Rattle.std.specs.Char.{is_whitespace, encode_utf8}
use Rattle.std.specs.Str.{IsUtf8, chars, encode_utf8_all, all_scalars, skip_leading_whitespace, drop_trailing_whitespace, trim_start, trim_end, trim}
use Rattle.std.proofs.lemmas.Str.{chars-encodes, encodes-chars, scalars-chars}
use Rattle.std.proofs.lemmas.Bool.{and_parts}

scalars_if : (b : Bool) (xs ys : List ℕ) → all_scalars xs ≡ true → all_scalars ys ≡ true → all_scalars (cond b xs ys) ≡ true
scalars_if true xs ys h k = h
scalars_if false xs ys h k = k

scalars_skipped : (cs : List ℕ) → all_scalars cs ≡ true → all_scalars (skip_leading_whitespace cs) ≡ true
scalars_skipped [] h = refl
scalars_skipped (c ∷ cs) h =
    scalars_if (is_whitespace c) (skip_leading_whitespace cs) (c ∷ cs) (scalars_skipped cs (and_parts _ (all_scalars cs) h).1) h

scalars_dropped : (cs : List ℕ) → all_scalars cs ≡ true → all_scalars (drop_trailing_whitespace cs) ≡ true
scalars_dropped [] h = refl
scalars_dropped (c ∷ cs) h =
    let b = and_parts _ (all_scalars cs) h in
    scalars_if (is_whitespace c && length (drop_trailing_whitespace cs) == 0) [] (c ∷ drop_trailing_whitespace cs) refl
    (rw b.0 (scalars_dropped cs b.1))

abbrev size : List ℕ → ℕ
size cs = length (encode_utf8_all cs)

size_if : (b : Bool) (xs ys : List ℕ) (n : ℕ) → size xs ≤ n → size ys ≤ n → size (cond b xs ys) ≤ n
size_if true xs ys n h k = h
size_if false xs ys n h k = k

size_more : (c : ℕ) (cs : List ℕ) → size (c ∷ cs) ≡ length (encode_utf8 c) + size cs
size_more c cs = length-append (encode_utf8 c) (encode_utf8_all cs)

skipped_shorter : (cs : List ℕ) → size (skip_leading_whitespace cs) ≤ size cs
skipped_shorter [] = omega arith
skipped_shorter (c ∷ cs) =
    size_if (is_whitespace c) (skip_leading_whitespace cs) (c ∷ cs) (size (c ∷ cs)) (omega (arith, skipped_shorter cs, size_more c cs)) (omega arith)

dropped_shorter : (cs : List ℕ) → size (drop_trailing_whitespace cs) ≤ size cs
dropped_shorter [] = omega arith
dropped_shorter (c ∷ cs) =
    size_if (is_whitespace c && length (drop_trailing_whitespace cs) == 0) [] (c ∷ drop_trailing_whitespace cs) (size (c ∷ cs)) (omega arith)
    (omega (arith, dropped_shorter cs, size_more c cs, size_more c (drop_trailing_whitespace cs)))

trim_is : (text : List ℕ) → IsUtf8 text → trim text ≡ encode_utf8_all (drop_trailing_whitespace (skip_leading_whitespace (chars text)))
unfolding trim_start trim_end
trim_is text utf8 =
    ap (λ cs. encode_utf8_all (drop_trailing_whitespace cs)) (chars-encodes (skip_leading_whitespace (chars text)) (scalars_skipped (chars text) (scalars-chars text utf8)))

pub IsUtf8-trim : (text : List ℕ) → IsUtf8 text → IsUtf8 (trim text)
IsUtf8-trim text utf8 =
    let cs = skip_leading_whitespace (chars text) in
    let P : List ℕ → Type 0 = IsUtf8 in
    subst P (sym (trim_is text utf8))
    (drop_trailing_whitespace cs, (scalars_dropped cs (scalars_skipped (chars text) (scalars-chars text utf8)), refl))

pub trim_shorter : (text : List ℕ) → IsUtf8 text → length (trim text) ≤ length text
trim_shorter text utf8 =
    let cs = skip_leading_whitespace (chars text) in
    omega (arith, ap length (trim_is text utf8), dropped_shorter cs, skipped_shorter (chars text), ap length (encodes-chars text utf8))
