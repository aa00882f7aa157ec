-- The tests on what comes next answer the same where a bracket, a comma or `;` stands behind the text.
use Rattle.std.proofs.Common.{◌≡◌, ℕ, suc, zero, ◌≤◌, ◌==◌, Bool, true, false, not, ◌&&◌, ◌||◌, [], ◌∷◌, ◌++◌, length, refl, ap, ◌∙◌, arith}
use Rattle.std.proofs.lemmas.Bool.{and_parts}
use Rattle.ssr_syntax_lex.specs.Cursor.{Chars, passes_at, stand_at, begins, past}
use Rattle.ssr_syntax_lex.specs.Characters.{◌∈◌, the_char, is_hash, starts_word, continues_word}
use Rattle.ssr_syntax_lex.specs.Raw.{begins_raw_string, begins_string, begins_raw_identifier, begins_lifetime}
use Rattle.ssr_syntax_lex.specs.Seams.{is_seam}
use Rattle.ssr_syntax_lex.proofs.SeamScans.{fails, seam_no_word, seam_no_start, past_on}

pub and_same : (x y u v : Bool) → x ≡ y → (y ≡ true → u ≡ v) → (x && u) ≡ (y && v)
and_same true true u v same more = more refl
and_same false false u v same more = refl
and_same true false u v same more = absurd (cc)
and_same false true u v same more = absurd (cc)

-- a character that is there
pub is_there : (i : ℕ) (test : ℕ → Bool) (cs : Chars) → passes_at i test cs ≡ true → suc i ≤ length cs
is_there i test [] e = absurd (cc)
is_there zero test (d ∷ cs) e = omega arith
is_there (suc i) test (d ∷ cs) e = let more = is_there i test cs e in omega arith

module _ (c : ℕ) (b : Chars) (seam : is_seam c ≡ true) where
  -- at the end of the text the test fails, as it does in front of the seam
  pub passes_on : (test : ℕ → Bool) → test c ≡ false → (i : ℕ) (cs : Chars) → i ≤ length cs → passes_at i test (cs ++ c ∷ b) ≡ passes_at i test cs
  passes_on test stops zero [] here = stops
  passes_on test stops (suc i) [] here = absurd (omega arith)
  passes_on test stops zero (d ∷ cs) here = refl
  passes_on test stops (suc i) (d ∷ cs) here = let less : i ≤ length cs = omega arith in passes_on test stops i cs less

  -- two characters
  pub pair_on : (x y : ℕ) → (c == x) ≡ false → (c == y) ≡ false → (cs : Chars) → stand_at 0 (x ∷ y ∷ []) (cs ++ c ∷ b) ≡ stand_at 0 (x ∷ y ∷ []) cs
  pair_on x y first second cs =
      and_same _ _ _ _ (passes_on (λ d. d == x) first 0 cs (omega arith))
      (λ there. passes_on (λ d. d == y) second 1 cs (is_there 0 (λ d. d == x) cs there))

  pub raw_string_begins_on : (cs : Chars) → begins_raw_string (cs ++ c ∷ b) ≡ begins_raw_string cs
  raw_string_begins_on [] = ap (λ x. x && begins "\"" (past is_hash b)) (fails (λ d. d ∈ "r") refl c seam)
  raw_string_begins_on (d ∷ cs) =
      ap (λ (xs : Chars). d ∈ "r" && begins "\"" xs) (past_on c b seam is_hash (fails is_hash refl c seam) cs)
      ∙ ap (λ x. d ∈ "r" && x) (passes_on (λ e. e == the_char "\"") (fails (λ e. e == the_char "\"") refl c seam) 0 (past is_hash cs) (omega arith))

  pub string_begins_on : (cs : Chars) → begins_string (cs ++ c ∷ b) ≡ begins_string cs
  string_begins_on cs =
      ap (λ x. x || begins_raw_string (cs ++ c ∷ b)) (passes_on (λ e. e == the_char "\"") (fails (λ e. e == the_char "\"") refl c seam) 0 cs (omega arith))
      ∙ ap (λ x. begins "\"" cs || x) (raw_string_begins_on cs)

  pub raw_identifier_on : (cs : Chars) → begins_raw_identifier (cs ++ c ∷ b) ≡ begins_raw_identifier cs
  raw_identifier_on cs =
      let two : begins "r#" cs ≡ true → 2 ≤ length cs = λ front. is_there 1 (λ d. d == the_char "#") cs (and_parts _ _ front).1 in
      and_same _ _ _ _
      (and_same _ _ _ _ (pair_on (the_char "r") (the_char "#") (fails (λ d. d ∈ "r") refl c seam) (fails is_hash refl c seam) cs)
      (λ front. passes_on starts_word (seam_no_start c seam) 2 cs (two front)))
      (λ word. ap not (and_same _ _ _ _
      (passes_on (λ d. d == the_char "_") (fails (λ d. d == the_char "_") refl c seam) 2 cs (two (and_parts _ _ word).0))
      (λ _. ap not (passes_on continues_word (seam_no_word c seam) 3 cs (is_there 2 starts_word cs (and_parts _ _ word).1)))))

  pub lifetime_on : (cs : Chars) → begins_lifetime (cs ++ c ∷ b) ≡ begins_lifetime cs
  lifetime_on cs =
      and_same _ _ _ _ (passes_on (λ d. d == the_char "'") (fails (λ d. d == the_char "'") refl c seam) 0 cs (omega arith))
      (λ front. and_same _ _ _ _
      (passes_on starts_word (seam_no_start c seam) 1 cs (is_there 0 (λ d. d == the_char "'") cs front))
      (λ starts. ap not (passes_on (λ d. d == the_char "'") (fails (λ d. d == the_char "'") refl c seam) 2 cs (is_there 1 starts_word cs starts))))
