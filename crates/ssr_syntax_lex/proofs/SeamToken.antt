-- The token at the front stays what it was where a bracket, a comma or `;` stands behind the text, unless it is a comment
-- to the end of a line that goes to the end of the text.
use Rattle.std.proofs.Common.{◌≡◌, ℕ, ◌<◌, ◌≤◌, ◌==◌, Bool, true, false, ◌&&◌, if◌then◌else◌, [], ◌∷◌, ◌++◌, length, drop, refl, ap, subst, ◌∙◌, arith, eqb-true}
use Rattle.std.specs.Prelude.{Option, Some, None, encode_utf8_all, slice_get}
use Rattle.std.specs.Option.{option_map}
use Rattle.std.proofs.lemmas.Bool.{and_parts}
use Rattle.std.proofs.lemmas.List.{drop-append-le}
use Rattle.std.proofs.lemmas.Option.{same_Some}
use Rattle.ssr_syntax_lex.specs.Cursor.{Chars, passes_at, begins, is_at, past}
use Rattle.ssr_syntax_lex.specs.Characters.{◌∈◌, the_char, is_whitespace, is_digit, starts_word, continues_word, is_in_line}
use Rattle.ssr_syntax_lex.specs.Words.{word_kind, mark_kind}
use Rattle.ssr_syntax_lex.specs.Scan.{past_comments, past_quoted, past_raw_string, past_char}
use Rattle.ssr_syntax_lex.specs.Raw.{Taken, past_word, begins_string, past_string, begins_raw_identifier, begins_lifetime, punctuation, closed, token}
use Rattle.ssr_syntax_lex.specs.Seams.{is_seam}
use Rattle.ssr_syntax_kinds.specs.declared.kinds.SyntaxKind.{SyntaxKind}
use Rattle.ssr_syntax_kinds.specs.declared.kinds.SyntaxKind.TheVariants as k
use Rattle.ssr_syntax_lex.proofs.FirstCharacters.{token_slash}
use Rattle.ssr_syntax_lex.proofs.SeamScans.{fails, seam_no_word, within_quoted, within_comments, within_raw_string, within_char, Meets, meets_by, past_on, run_on, quoted_on, comments_on, raw_string_on, char_on, behind_on}
use Rattle.ssr_syntax_lex.proofs.SeamTests.{is_there, passes_on, pair_on, string_begins_on, raw_identifier_on, lifetime_on}
use Rattle.ssr_syntax_lex.proofs.SeamNumbers.{number_on}

-- The token of a text, and that of the text with a character and others behind it: the same, with these behind what
-- follows. Where there is none, one of the longer text ends behind the character and more.
abbrev pub Joins : ℕ → Chars → Option Taken → Option Taken → Type 0
Joins c b (Some taken) p = p ≡ Some (taken.0, taken.1 ++ c ∷ b)
Joins c b None p = (taken : Taken) → p ≡ Some taken → length taken.1 < length b

same_taken : (kind kind' : SyntaxKind) (rest rest' : Chars) → kind ≡ kind' → rest ≡ rest' → ◌≡◌ {A = Option Taken} (Some (kind, rest)) (Some (kind', rest'))
same_taken kind kind' rest rest' kinds rests =
    ap (λ (x : SyntaxKind). let taken : Option Taken = Some (x, rest) in taken) kinds
    ∙ ap (λ (xs : Chars). let taken : Option Taken = Some (kind', xs) in taken) rests

joins_none : (c : ℕ) (b : Chars) → Joins c b None None
joins_none c b taken e = absurd (cc)

joins_closed : (c : ℕ) (b : Chars) (kind : SyntaxKind) (o p : Option Chars) → Meets c b o p → Joins c b (closed kind o) (closed kind p)
joins_closed c b kind (Some rest) p meets = ap (closed kind) meets
joins_closed c b kind None None meets = joins_none c b
joins_closed c b kind None (Some rest) meets = λ taken e. subst (λ (t : Taken). length t.1 < length b) (same_Some _ _ e) (meets rest refl)

joins_by : (c : ℕ) (b : Chars) (x y : Bool) (o p o' p' : Option Taken) → y ≡ x → (x ≡ true → Joins c b o o') → Joins c b p p' → Joins c b (if x then o else p) (if y then o' else p')
joins_by c b true true o p o' p' same holds fails = holds refl
joins_by c b false false o p o' p' same holds fails = fails
joins_by c b true false o p o' p' same holds fails = absurd (cc)
joins_by c b false true o p o' p' same holds fails = absurd (cc)

-- a run that ends within a text
past_within : (more : Chars) (test : ℕ → Bool) (cs : Chars) → 0 < length (past test cs) → past test (cs ++ more) ≡ past test cs ++ more
past_within more test [] some = absurd (omega arith)
past_within more test (d ∷ cs) some =
    (elim (test d) as (λ x. 0 < length (if x then past test cs else (d ∷ cs)) → (if x then past test (cs ++ more) else (d ∷ (cs ++ more))) ≡ (if x then past test cs else (d ∷ cs)) ++ more) [
      | true ↦ λ left. past_within more test cs left
      | false ↦ λ _. refl
    ]) some

-- a comment to the end of a line
pub line_token : (dots : ℕ) (cs : Chars) → begins "//" cs ≡ true → token dots cs ≡ Some (k.COMMENT, past is_in_line cs)
line_token dots [] e = absurd (cc)
line_token dots (d ∷ cs) e =
    let parts = and_parts _ _ e in
    let first : slice_get (d ∷ cs) 0 ≡ Some (the_char "/") = ap (λ (x : ℕ). let o : Option ℕ = Some x in o) (eqb-true d (the_char "/") parts.0) in
    token_slash dots (d ∷ cs) first
    ∙ ap (λ x. if x then Some (k.COMMENT, past is_in_line (d ∷ cs)) else (if is_at 1 "*" (d ∷ cs) then closed k.COMMENT (past_comments 1 (drop 2 (d ∷ cs))) else Some (k.SLASH, cs))) parts.1

module _ (c : ℕ) (b : Chars) (seam : is_seam c ≡ true) where
  string_on : (cs : Chars) → Meets c b (past_string cs) (past_string (cs ++ c ∷ b))
  string_on cs =
      meets_by c b (begins "\"" cs) (begins "\"" (cs ++ c ∷ b)) _ _ _ _
      (passes_on c b seam (λ e. e == the_char "\"") (fails (λ e. e == the_char "\"") refl c seam) 0 cs (omega arith))
      (λ _. behind_on c b seam (past_quoted false) 1 cs (quoted_on c b seam false) refl (within_quoted false))
      (behind_on c b seam past_raw_string 1 cs (raw_string_on c b seam) refl within_raw_string)

  word_on : (cs : Chars) → past_word (cs ++ c ∷ b) ≡ past_word cs ++ c ∷ b
  word_on cs = past_on c b seam continues_word (seam_no_word c seam) cs

  raw_word_on : (cs : Chars) → begins_raw_identifier cs ≡ true → past_word (drop 2 (cs ++ c ∷ b)) ≡ past_word (drop 2 cs) ++ c ∷ b
  raw_word_on cs begins =
      let two : 2 ≤ length cs = is_there 1 (λ d. d == the_char "#") cs (and_parts _ _ (and_parts _ _ (and_parts _ _ begins).0).0).1 in
      ap past_word (drop-append-le 2 cs (c ∷ b) two) ∙ word_on (drop 2 cs)

  punctuation_joins : (d : ℕ) (ds : Chars) → Joins c b (punctuation (d ∷ ds)) (punctuation (d ∷ (ds ++ c ∷ b)))
  punctuation_joins d ds =
      elim (mark_kind d) as (λ o. Joins c b (option_map (λ kind. let taken : Taken = (kind, ds) in taken) o) (option_map (λ kind. let taken : Taken = (kind, ds ++ c ∷ b) in taken) o)) [
        | None ↦ joins_none c b
        | Some kind ↦ refl
      ]

  pub token_joins : (dots d : ℕ) (ds : Chars) → (begins "//" (d ∷ ds) ≡ true → 0 < length (past is_in_line (d ∷ ds))) → Joins c b (token dots (d ∷ ds)) (token dots (d ∷ (ds ++ c ∷ b)))
  unfolding token
  token_joins dots d ds ends =
      let cs : Chars = d ∷ ds in
      joins_by c b (passes_at 0 is_whitespace cs) (passes_at 0 is_whitespace cs) _ _ _ _ refl
      (λ _. same_taken _ _ _ _ refl (past_on c b seam is_whitespace (fails is_whitespace refl c seam) cs))
      (joins_by c b (begins "//" cs) (begins "//" (cs ++ c ∷ b)) _ _ _ _
      (pair_on c b seam (the_char "/") (the_char "/") (fails (λ e. e ∈ "/") refl c seam) (fails (λ e. e ∈ "/") refl c seam) cs)
      (λ line. same_taken _ _ _ _ refl (past_within (c ∷ b) is_in_line cs (ends line)))
      (joins_by c b (begins "/*" cs) (begins "/*" (cs ++ c ∷ b)) _ _ _ _
      (pair_on c b seam (the_char "/") (the_char "*") (fails (λ e. e ∈ "/") refl c seam) (fails (λ e. e ∈ "*") refl c seam) cs)
      (λ _. joins_closed c b _ _ _ (behind_on c b seam (past_comments 1) 2 cs (comments_on c b seam 1) refl (within_comments 0)))
      (joins_by c b (begins_string cs) (begins_string (cs ++ c ∷ b)) _ _ _ _ (string_begins_on c b seam cs)
      (λ _. joins_closed c b _ _ _ (string_on cs))
      (joins_by c b (begins "b" cs && begins_string ds) (begins "b" cs && begins_string (ds ++ c ∷ b)) _ _ _ _
      (ap (λ x. begins "b" cs && x) (string_begins_on c b seam ds))
      (λ _. joins_closed c b _ _ _ (string_on ds))
      (joins_by c b (begins "c" cs && begins_string ds) (begins "c" cs && begins_string (ds ++ c ∷ b)) _ _ _ _
      (ap (λ x. begins "c" cs && x) (string_begins_on c b seam ds))
      (λ _. joins_closed c b _ _ _ (string_on ds))
      (joins_by c b (begins "b'" cs) (begins "b'" (cs ++ c ∷ b)) _ _ _ _
      (pair_on c b seam (the_char "b") (the_char "'") (fails (λ e. e ∈ "b") refl c seam) (fails (λ e. e ∈ "'") refl c seam) cs)
      (λ _. joins_closed c b _ _ _ (behind_on c b seam past_char 2 cs (char_on c b seam) refl within_char))
      (joins_by c b (begins_raw_identifier cs) (begins_raw_identifier (cs ++ c ∷ b)) _ _ _ _ (raw_identifier_on c b seam cs)
      (λ begins. same_taken _ _ _ _ refl (raw_word_on cs begins))
      (joins_by c b (passes_at 0 starts_word cs) (passes_at 0 starts_word cs) _ _ _ _ refl
      (λ _. same_taken _ _ _ _ (ap (λ (xs : Chars). word_kind (encode_utf8_all xs)) (run_on c b seam continues_word (seam_no_word c seam) cs)) (word_on cs))
      (joins_by c b (begins_lifetime cs) (begins_lifetime (cs ++ c ∷ b)) _ _ _ _ (lifetime_on c b seam cs)
      (λ _. same_taken _ _ _ _ refl (word_on ds))
      (joins_by c b (begins "'" cs) (begins "'" cs) _ _ _ _ refl
      (λ _. joins_closed c b _ _ _ (char_on c b seam ds))
      (joins_by c b (passes_at 0 is_digit cs) (passes_at 0 is_digit cs) _ _ _ _ refl
      (λ _. ap (λ (taken : Taken). let o : Option Taken = Some taken in o) (number_on c b seam dots cs))
      (punctuation_joins d ds))))))))))))
