-- A number stays what it was where a bracket, a comma or `;` stands behind the text.
use Rattle.std.proofs.Common.{◌≡◌, ℕ, ◌≤◌, ◌==◌, Bool, true, false, not, ◌&&◌, ◌||◌, if◌then◌else◌, [], ◌∷◌, ◌++◌, length, take, drop, refl, ap, ◌∙◌, arith}
use Rattle.std.specs.List.{list_all}
use Rattle.std.proofs.lemmas.Bool.{and_parts}
use Rattle.std.proofs.lemmas.List.{drop-append-le, take-append-le}
use Rattle.ssr_syntax_lex.specs.Cursor.{Chars, begins, run, past}
use Rattle.ssr_syntax_lex.specs.Characters.{the_char, is_digit, is_digit_or_underscore, starts_word, continues_word}
use Rattle.ssr_syntax_lex.specs.Numbers.{Part, with_run, has_radix, ends_with_exponent_mark, takes_point, is_signed_digit, takes_sign, has_exponent, whole_run, with_point, with_sign, number_kind, number}
use Rattle.ssr_syntax_lex.specs.Raw.{Taken}
use Rattle.ssr_syntax_lex.specs.Seams.{is_seam}
use Rattle.ssr_syntax_kinds.specs.declared.kinds.SyntaxKind.{SyntaxKind}
use Rattle.ssr_syntax_kinds.specs.declared.kinds.SyntaxKind.TheVariants as k
use Rattle.ssr_syntax_lex.proofs.SeamScans.{fails, seam_no_word, seam_no_start, past_on, run_on}
use Rattle.ssr_syntax_lex.proofs.SeamTests.{and_same, is_there, passes_on}

-- the part, with others behind what follows
abbrev pub longer : Chars → Part → Part
longer more part = (part.0, part.1 ++ more)

pair : (t u : Chars) (r s : Chars) → t ≡ u → r ≡ s → ◌≡◌ {A = Part} (t, r) (u, s)
pair t u r s texts rests = ap (λ (x : Chars). let p : Part = (x, r) in p) texts ∙ ap (λ (x : Chars). let p : Part = (u, x) in p) rests

pick : (x y : Bool) (p q p' q' : Part) → x ≡ y → (y ≡ true → p ≡ p') → q ≡ q' → (if x then p else q) ≡ (if y then p' else q')
pick true true p q p' q' same holds fails = holds refl
pick false false p q p' q' same holds fails = fails
pick true false p q p' q' same holds fails = absurd (cc)
pick false true p q p' q' same holds fails = absurd (cc)

longer_if : (more : Chars) (x : Bool) (p q : Part) → (if x then longer more p else longer more q) ≡ longer more (if x then p else q)
longer_if more true p q = refl
longer_if more false p q = refl

module _ (c : ℕ) (b : Chars) (seam : is_seam c ≡ true) where
  with_run_on : (n : ℕ) (part : Part) → n ≤ length part.1 → with_run n (longer (c ∷ b) part) ≡ longer (c ∷ b) (with_run n part)
  with_run_on n part enough =
      let rest : drop n (part.1 ++ c ∷ b) ≡ drop n part.1 ++ c ∷ b = drop-append-le n part.1 (c ∷ b) enough in
      let front : take n (part.1 ++ c ∷ b) ≡ take n part.1 = take-append-le n part.1 (c ∷ b) enough in
      let stops = seam_no_word c seam in
      pair _ _ _ _
      (ap (λ (xs : Chars). part.0 ++ xs ++ run continues_word (drop n (part.1 ++ c ∷ b))) front
      ∙ ap (λ (xs : Chars). part.0 ++ take n part.1 ++ xs) (ap (run continues_word) rest ∙ run_on c b seam continues_word stops (drop n part.1)))
      (ap (past continues_word) rest ∙ past_on c b seam continues_word stops (drop n part.1))

  point_on : (part : Part) → takes_point (longer (c ∷ b) part) ≡ takes_point part
  point_on part =
      let is_point : ℕ → Bool = λ d. d == the_char "." in
      let stops = fails (λ d. d == the_char ".") refl c seam in
      and_same _ _ _ _
      (and_same _ _ _ _
      (ap (λ x. list_all is_digit_or_underscore part.0 && x) (passes_on c b seam is_point stops 0 part.1 (omega arith)))
      (λ front. ap not (passes_on c b seam is_point stops 1 part.1 (is_there 0 is_point part.1 (and_parts _ _ front).1))))
      (λ front. ap not (passes_on c b seam starts_word (seam_no_start c seam) 1 part.1 (is_there 0 is_point part.1 (and_parts _ _ (and_parts _ _ front).0).1)))

  has_first : (cs : Chars) → (begins "+" cs || begins "-" cs) ≡ true → 1 ≤ length cs
  has_first [] e = absurd (cc)
  has_first (d ∷ cs) e = omega arith

  signed_on : (cs : Chars) → is_signed_digit (cs ++ c ∷ b) ≡ is_signed_digit cs
  signed_on cs =
      and_same _ _ _ _
      (ap (λ x. x || begins "-" (cs ++ c ∷ b)) (passes_on c b seam (λ d. d == the_char "+") (fails (λ d. d == the_char "+") refl c seam) 0 cs (omega arith))
      ∙ ap (λ x. begins "+" cs || x) (passes_on c b seam (λ d. d == the_char "-") (fails (λ d. d == the_char "-") refl c seam) 0 cs (omega arith)))
      (λ front. passes_on c b seam is_digit (fails is_digit refl c seam) 1 cs (has_first cs front))

  sign_on : (part : Part) → takes_sign (longer (c ∷ b) part) ≡ takes_sign part
  sign_on part = ap (λ x. not (has_radix part.0) && ends_with_exponent_mark part.0 && x) (signed_on part.1)

  two_there : (part : Part) → takes_sign part ≡ true → 2 ≤ length part.1
  two_there part takes = is_there 1 is_digit part.1 (and_parts _ _ (and_parts _ _ takes).1).1

  one_there : (part : Part) → takes_point part ≡ true → 1 ≤ length part.1
  one_there part takes = is_there 0 (λ d. d == the_char ".") part.1 (and_parts _ _ (and_parts _ _ (and_parts _ _ takes).0).0).1

  with_point_on : (part : Part) → with_point (longer (c ∷ b) part) ≡ longer (c ∷ b) (with_point part)
  with_point_on part =
      pick _ _ _ _ _ _ (point_on part) (λ takes. with_run_on 1 part (one_there part takes)) refl
      ∙ longer_if (c ∷ b) (takes_point part) (with_run 1 part) part

  with_sign_on : (part : Part) → with_sign (longer (c ∷ b) part) ≡ longer (c ∷ b) (with_sign part)
  with_sign_on part =
      pick _ _ _ _ _ _ (sign_on part) (λ takes. with_run_on 2 part (two_there part takes)) refl
      ∙ longer_if (c ∷ b) (takes_sign part) (with_run 2 part) part

  both_on : (part : Part) → with_sign (with_point (longer (c ∷ b) part)) ≡ longer (c ∷ b) (with_sign (with_point part))
  both_on part = ap with_sign (with_point_on part) ∙ with_sign_on (with_point part)

  kind_on : (part : Part) → number_kind (longer (c ∷ b) part) ≡ number_kind part
  kind_on part =
      ap (λ x. if x || takes_sign (with_point (longer (c ∷ b) part)) || has_exponent (with_sign (with_point (longer (c ∷ b) part))).0 then k.FLOAT_NUMBER else k.INT_NUMBER) (point_on part)
      ∙ ap (λ x. if takes_point part || x || has_exponent (with_sign (with_point (longer (c ∷ b) part))).0 then k.FLOAT_NUMBER else k.INT_NUMBER)
      (ap takes_sign (with_point_on part) ∙ sign_on (with_point part))
      ∙ ap (λ (p : Part). if takes_point part || takes_sign (with_point part) || has_exponent p.0 then k.FLOAT_NUMBER else k.INT_NUMBER) (both_on part)

  taken_same : (kind kind' : SyntaxKind) (rest rest' : Chars) → kind ≡ kind' → rest ≡ rest' → ◌≡◌ {A = Taken} (kind, rest) (kind', rest')
  taken_same kind kind' rest rest' kinds rests =
      ap (λ (x : SyntaxKind). let taken : Taken = (x, rest) in taken) kinds ∙ ap (λ (xs : Chars). let taken : Taken = (kind', xs) in taken) rests

  whole_on : (cs : Chars) → whole_run (cs ++ c ∷ b) ≡ longer (c ∷ b) (whole_run cs)
  whole_on cs = with_run_on 0 ([], cs) (omega arith)

  either : (x : Bool) (p q p' q' : Taken) → p ≡ (p'.0, p'.1 ++ c ∷ b) → q ≡ (q'.0, q'.1 ++ c ∷ b) → (if x then p else q) ≡ ((if x then p' else q').0, (if x then p' else q').1 ++ c ∷ b)
  either true p q p' q' holds fails = holds
  either false p q p' q' holds fails = fails

  -- the kind of the number, and what follows it
  pub number_on : (dots : ℕ) (cs : Chars) → number dots (cs ++ c ∷ b) ≡ ((number dots cs).0, (number dots cs).1 ++ c ∷ b)
  unfolding number
  number_on dots cs =
      either (dots == 1) _ _ _ _
      (taken_same _ _ _ _ refl (past_on c b seam is_digit (fails is_digit refl c seam) cs))
      (taken_same _ _ _ _
      (ap number_kind (whole_on cs) ∙ kind_on (whole_run cs))
      (ap (λ (p : Part). (with_sign (with_point p)).1) (whole_on cs) ∙ ap (λ (p : Part). p.1) (both_on (whole_run cs))))
