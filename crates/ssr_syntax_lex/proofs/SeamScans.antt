-- What follows a run, a comment, a string or a character stays what it was where a bracket, a comma or `;` stands behind
-- the text, with anything behind that.
use Rattle.std.proofs.Common.{◌≡◌, ℕ, suc, zero, ◌<◌, ◌≤◌, ◌==◌, Bool, true, false, not, ◌&&◌, ◌||◌, if◌then◌else◌, [], ◌∷◌, ◌++◌, length, drop, refl, sym, ap, subst, ◌∙◌, arith, length-append, leb-true, eqb-true}
use Rattle.std.specs.Prelude.{Option, Some, None, nat_le, nat_lt, codes}
use Rattle.std.specs.List.{list_all}
use Rattle.std.specs.Char.{is_ascii_alphabetic}
use Rattle.std.specs.Int.{is_in_range}
use Rattle.std.proofs.lemmas.Bool.{and_parts, and_right, not-true, ltb-true}
use Rattle.std.proofs.lemmas.List.{drop-append-le}
use Rattle.std.proofs.lemmas.Option.{same_Some}
use Rattle.unicode_ident.proofs.IdentLemmas.{is_xid_continue-ascii, is_xid_start-ascii}
use Rattle.ssr_syntax_lex.specs.Cursor.{Chars, begins, run, past}
use Rattle.ssr_syntax_lex.specs.Characters.{◌∈◌, is_among, is_hash, is_digit, starts_word, continues_word, is_in_char}
use Rattle.ssr_syntax_lex.specs.Scan.{past_comments, past_quoted, past_raw, past_raw_string, past_apostrophe, past_char, begins_with_hashes}
use Rattle.ssr_syntax_lex.specs.Seams.{is_seam}
use Rattle.ssr_syntax_lex.proofs.Eaten.{run-past}
use Rattle.ssr_syntax_lex.proofs.Fronts.{Follows, follows_drop, follows_past, follows_past_drop, Ends, ends_some, ends_on, ends_comments, ends_quoted, ends_raw, ends_apostrophe}

-- ** What no seam passes.

fails_among : (test : ℕ → Bool) (ds : Chars) (c : ℕ) → list_all (λ d. not (test d)) ds ≡ true → is_among c ds ≡ true → test c ≡ false
fails_among test [] c all is = absurd (cc)
fails_among test (d ∷ []) c all is = ap test (eqb-true c d is) ∙ not-true (test d) (and_parts _ _ all).0
fails_among test (d ∷ e ∷ ds) c all is =
    let parts = and_parts _ _ all in
    elim (c == d) as (λ x. (c == d) ≡ x → (x || is_among c (e ∷ ds)) ≡ true → test c ≡ false) [
      | true ↦ λ same _. ap test (eqb-true c d same) ∙ not-true (test d) parts.0
      | false ↦ λ _ others. fails_among test (e ∷ ds) c parts.1 others
    ] refl is

-- a test that no bracket, comma or `;` passes
pub fails : (test : ℕ → Bool) → list_all (λ d. not (test d)) (codes "()[]{},;") ≡ true → (c : ℕ) → is_seam c ≡ true → test c ≡ false
fails test all c seam = fails_among test (codes "()[]{},;") c all seam

pub so_true : (b : Bool) → not b ≡ false → b ≡ true
so_true true e = refl
so_true false e = sym e

pub seam_small : (c : ℕ) → is_seam c ≡ true → nat_lt c 128 ≡ true
seam_small c seam = so_true (nat_lt c 128) (fails (λ d. not (nat_lt d 128)) refl c seam)

pub seam_ascii : (c : ℕ) → is_seam c ≡ true → c < 128
seam_ascii c seam = ltb-true c 128 (seam_small c seam)

pub seam_no_word : (c : ℕ) → is_seam c ≡ true → continues_word c ≡ false
seam_no_word c seam =
    is_xid_continue-ascii c (seam_ascii c seam)
    ∙ fails (λ d. ((is_digit d || is_in_range 65 90 d) || is_in_range 97 122 d) || (d ∈ "_")) refl c seam

pub seam_no_start : (c : ℕ) → is_seam c ≡ true → starts_word c ≡ false
seam_no_start c seam =
    ap (λ x. x || c == 95) (is_xid_start-ascii c (seam_ascii c seam)) ∙ fails (λ d. is_ascii_alphabetic d || d == 95) refl c seam

-- ** What follows is shorter than these characters.
abbrev pub Within : Chars → Option Chars → Type 0
Within cs o = (rest : Chars) → o ≡ Some rest → length rest < length cs

pub within_none : (cs : Chars) → Within cs None
within_none cs rest e = absurd (cc)

pub within_some : (cs rest : Chars) → length rest < length cs → Within cs (Some rest)
within_some cs rest less other e = subst (λ (xs : Chars). length xs < length cs) (same_Some _ _ e) less

pub within_if : (cs : Chars) (x : Bool) (o p : Option Chars) → Within cs o → Within cs p → Within cs (if x then o else p)
within_if cs true o p holds fails = holds
within_if cs false o p holds fails = fails

pub within_unless : (cs : Chars) (x : Bool) (o p : Option Chars) → x ≡ false → Within cs p → Within cs (if x then o else p)
within_unless cs true o p is within = absurd (cc)
within_unless cs false o p is within = within

pub follows_le : (cs rest : Chars) → Follows cs rest → length rest ≤ length cs
follows_le cs rest (taken, e) = omega (arith, ap length e, length-append taken rest)

pub ends_within : (cs more : Chars) (o : Option Chars) → length cs < length more → Ends cs o → Within more o
ends_within cs more o less ends rest e = omega (arith, less, follows_le cs rest (ends rest e))

next : (d : ℕ) (cs : Chars) → length cs < length (d ∷ cs)
next d cs = omega arith

pub within_quoted : (escaped : Bool) (cs : Chars) → Within cs (past_quoted escaped cs)
within_quoted escaped [] = within_none []
within_quoted escaped (d ∷ cs) =
    within_if (d ∷ cs) escaped _ _ (ends_within cs (d ∷ cs) _ (next d cs) (ends_quoted false cs))
    (within_if (d ∷ cs) (d ∈ "\"") _ _ (within_some (d ∷ cs) cs (next d cs))
    (ends_within cs (d ∷ cs) _ (next d cs) (ends_quoted (d ∈ "\\") cs)))

pub within_comments : (depth : ℕ) (cs : Chars) → Within cs (past_comments (suc depth) cs)
within_comments depth [] = within_none []
within_comments depth (d ∷ []) = within_none (d ∷ [])
within_comments depth (d ∷ e ∷ cs) =
    let two : length cs < length (d ∷ e ∷ cs) = omega arith in
    within_if (d ∷ e ∷ cs) (begins "/*" (d ∷ e ∷ cs)) _ _ (ends_within cs (d ∷ e ∷ cs) _ two (ends_comments (suc (suc depth)) cs))
    (within_if (d ∷ e ∷ cs) (begins "*/" (d ∷ e ∷ cs)) _ _ (ends_within cs (d ∷ e ∷ cs) _ two (ends_comments depth cs))
    (ends_within (e ∷ cs) (d ∷ e ∷ cs) _ (next d (e ∷ cs)) (ends_comments (suc depth) (e ∷ cs))))

pub within_raw : (hashes : ℕ) (cs : Chars) → Within cs (past_raw hashes cs)
within_raw hashes [] = within_none []
within_raw hashes (d ∷ cs) =
    within_if (d ∷ cs) (d ∈ "\"" && begins_with_hashes hashes cs) _ _
    (ends_within cs (d ∷ cs) _ (next d cs) (ends_some cs (drop hashes cs) (follows_drop hashes cs)))
    (ends_within cs (d ∷ cs) _ (next d cs) (ends_raw hashes cs))

pub within_apostrophe : (cs : Chars) → Within cs (past_apostrophe cs)
within_apostrophe [] = within_none []
within_apostrophe (d ∷ cs) =
    within_if (d ∷ cs) (d ∈ "'") _ _ (within_some (d ∷ cs) cs (next d cs)) (within_none (d ∷ cs))

-- ** What follows in a text, and in the text with a character and others behind it: the same with these behind it. Where
-- nothing does, what follows in the longer text lies behind the character.
abbrev pub Meets : ℕ → Chars → Option Chars → Option Chars → Type 0
Meets c b (Some rest) p = p ≡ Some (rest ++ c ∷ b)
Meets c b None p = Within b p

pub meets_if : (c : ℕ) (b : Chars) (x : Bool) (o p o' p' : Option Chars) → Meets c b o o' → Meets c b p p' → Meets c b (if x then o else p) (if x then o' else p')
meets_if c b true o p o' p' holds fails = holds
meets_if c b false o p o' p' holds fails = fails

pub found : (xs ys : Chars) → xs ≡ ys → ◌≡◌ {A = Option Chars} (Some xs) (Some ys)
found xs ys e = ap (λ (zs : Chars). let o : Option Chars = Some zs in o) e

-- by a test with the same answer
pub meets_by : (c : ℕ) (b : Chars) (x y : Bool) (o p o' p' : Option Chars) → y ≡ x → (x ≡ true → Meets c b o o') → Meets c b p p' → Meets c b (if x then o else p) (if y then o' else p')
meets_by c b true true o p o' p' same holds fails = holds refl
meets_by c b false false o p o' p' same holds fails = fails
meets_by c b true false o p o' p' same holds fails = absurd (cc)
meets_by c b false true o p o' p' same holds fails = absurd (cc)

comments_behind : (c : ℕ) (b : Chars) (depth : ℕ) → (c ∈ "/") ≡ false → (c ∈ "*") ≡ false → Within b (past_comments (suc depth) (c ∷ b))
comments_behind c [] depth slash star = within_none []
comments_behind c (e ∷ b) depth slash star =
    within_unless (e ∷ b) (begins "/*" (c ∷ e ∷ b)) _ _ (ap (λ x. x && (e ∈ "*")) slash)
    (within_unless (e ∷ b) (begins "*/" (c ∷ e ∷ b)) _ _ (ap (λ x. x && (e ∈ "/")) star)
    (within_comments depth (e ∷ b)))

pub within_raw_string : (cs : Chars) → Within cs (past_raw_string cs)
within_raw_string cs rest e =
    let hashes : ℕ = length (run is_hash cs) in
    omega (
      arith,
      within_raw hashes (drop 1 (past is_hash cs)) rest e,
      follows_le (past is_hash cs) (drop 1 (past is_hash cs)) (follows_drop 1 (past is_hash cs)),
      follows_le cs (past is_hash cs) (follows_past is_hash cs),
    )

within_in_char : (cs : Chars) → Within cs (past_apostrophe (past is_in_char cs))
within_in_char [] = within_none []
within_in_char (d ∷ cs) =
    elim (is_in_char d) as (λ x. Within (d ∷ cs) (past_apostrophe (if x then past is_in_char cs else (d ∷ cs)))) [
      | true ↦ ends_within cs (d ∷ cs) _ (next d cs) (ends_on cs (past is_in_char cs) _ (follows_past_drop is_in_char 0 cs) (ends_apostrophe (past is_in_char cs)))
      | false ↦ within_apostrophe (d ∷ cs)
    ]

pub within_char : (cs : Chars) → Within cs (past_char cs)
within_char [] = within_none []
within_char (d ∷ cs) =
    within_if (d ∷ cs) (d ∈ "\\") _ _
    (ends_within cs (d ∷ cs) _ (next d cs) (ends_on cs (past is_in_char (drop 1 cs)) _ (follows_past_drop is_in_char 1 cs) (ends_apostrophe (past is_in_char (drop 1 cs)))))
    (within_if (d ∷ cs) (is_in_char d) _ _ (ends_within cs (d ∷ cs) _ (next d cs) (ends_apostrophe cs)) (within_none (d ∷ cs)))

module _ (c : ℕ) (b : Chars) (seam : is_seam c ≡ true) where
  pub past_on : (test : ℕ → Bool) → test c ≡ false → (cs : Chars) → past test (cs ++ c ∷ b) ≡ past test cs ++ c ∷ b
  past_on test stops [] = ap (λ x. if x then past test b else (c ∷ b)) stops
  past_on test stops (d ∷ cs) =
      elim (test d) as (λ x. (if x then past test (cs ++ c ∷ b) else (d ∷ (cs ++ c ∷ b))) ≡ (if x then past test cs else (d ∷ cs)) ++ c ∷ b) [
        | true ↦ past_on test stops cs
        | false ↦ refl
      ]

  pub run_on : (test : ℕ → Bool) → test c ≡ false → (cs : Chars) → run test (cs ++ c ∷ b) ≡ run test cs
  run_on test stops [] = ap (λ x. if x then c ∷ run test b else []) stops
  run_on test stops (d ∷ cs) =
      elim (test d) as (λ x. (if x then d ∷ run test (cs ++ c ∷ b) else []) ≡ (if x then d ∷ run test cs else [])) [
        | true ↦ ap (λ xs. d ∷ xs) (run_on test stops cs)
        | false ↦ refl
      ]

  pub quoted_on : (escaped : Bool) (cs : Chars) → Meets c b (past_quoted escaped cs) (past_quoted escaped (cs ++ c ∷ b))
  quoted_on escaped [] =
      within_if b escaped _ _ (within_quoted false b)
      (within_unless b (c ∈ "\"") _ _ (fails (λ d. d ∈ "\"") refl c seam) (within_quoted (c ∈ "\\") b))
  quoted_on escaped (d ∷ cs) =
      meets_if c b escaped _ _ _ _ (quoted_on false cs) (meets_if c b (d ∈ "\"") _ _ _ _ refl (quoted_on (d ∈ "\\") cs))

  pub comments_on : (depth : ℕ) (cs : Chars) → Meets c b (past_comments depth cs) (past_comments depth (cs ++ c ∷ b))
  comments_on zero cs = refl
  comments_on (suc depth) [] =
      comments_behind c b depth (fails (λ d. d ∈ "/") refl c seam) (fails (λ d. d ∈ "*") refl c seam)
  comments_on (suc depth) (d ∷ []) =
      let slash = fails (λ e. e ∈ "/") refl c seam in
      let star = fails (λ e. e ∈ "*") refl c seam in
      within_unless b (begins "/*" (d ∷ c ∷ b)) _ _ (and_right (d ∈ "/") (c ∈ "*") star)
      (within_unless b (begins "*/" (d ∷ c ∷ b)) _ _ (and_right (d ∈ "*") (c ∈ "/") slash)
      (comments_behind c b depth slash star))
  comments_on (suc depth) (d ∷ e ∷ cs) =
      meets_if c b (begins "/*" (d ∷ e ∷ cs)) _ _ _ _ (comments_on (suc (suc depth)) cs)
      (meets_if c b (begins "*/" (d ∷ e ∷ cs)) _ _ _ _ (comments_on depth cs) (comments_on (suc depth) (e ∷ cs)))

  same_hashes : (hashes : ℕ) (cs : Chars) → begins_with_hashes hashes (cs ++ c ∷ b) ≡ begins_with_hashes hashes cs
  same_hashes hashes cs = ap (λ (xs : Chars). nat_le hashes (length xs)) (run_on is_hash (fails is_hash refl c seam) cs)

  enough_hashes : (hashes : ℕ) (cs : Chars) → begins_with_hashes hashes cs ≡ true → hashes ≤ length cs
  enough_hashes hashes cs begins =
      omega (arith, leb-true hashes (length (run is_hash cs)) begins, ap length (run-past is_hash cs), length-append (run is_hash cs) (past is_hash cs))

  pub raw_on : (hashes : ℕ) (cs : Chars) → Meets c b (past_raw hashes cs) (past_raw hashes (cs ++ c ∷ b))
  raw_on hashes [] =
      within_unless b (c ∈ "\"" && begins_with_hashes hashes b) _ _
      (ap (λ x. x && begins_with_hashes hashes b) (fails (λ d. d ∈ "\"") refl c seam)) (within_raw hashes b)
  raw_on hashes (d ∷ cs) =
      meets_by c b (d ∈ "\"" && begins_with_hashes hashes cs) (d ∈ "\"" && begins_with_hashes hashes (cs ++ c ∷ b)) _ _ _ _
      (ap (λ x. d ∈ "\"" && x) (same_hashes hashes cs))
      (λ closes. found _ _ (drop-append-le hashes cs (c ∷ b) (enough_hashes hashes cs (and_parts _ _ closes).1)))
      (raw_on hashes cs)

  -- the same behind some characters
  pub behind_on : (f : Chars → Option Chars) (n : ℕ) (cs : Chars) → ((ds : Chars) → Meets c b (f ds) (f (ds ++ c ∷ b))) → f [] ≡ None → ((ds : Chars) → Within ds (f ds)) → Meets c b (f (drop n cs)) (f (drop n (cs ++ c ∷ b)))
  behind_on f zero cs meets none within = meets cs
  behind_on f (suc n) [] meets none within =
      subst (λ (o : Option Chars). Meets c b o (f (drop n b))) (sym none)
      (λ rest e. omega (arith, within (drop n b) rest e, follows_le b (drop n b) (follows_drop n b)))
  behind_on f (suc n) (d ∷ cs) meets none within = behind_on f n cs meets none within

  pub raw_string_on : (cs : Chars) → Meets c b (past_raw_string cs) (past_raw_string (cs ++ c ∷ b))
  raw_string_on cs =
      let hashes : ℕ = length (run is_hash cs) in
      let stops = fails is_hash refl c seam in
      subst (λ (n : ℕ). Meets c b (past_raw_string cs) (past_raw n (drop 1 (past is_hash (cs ++ c ∷ b))))) (sym (ap length (run_on is_hash stops cs)))
      (subst (λ (xs : Chars). Meets c b (past_raw_string cs) (past_raw hashes (drop 1 xs))) (sym (past_on is_hash stops cs))
      (behind_on (past_raw hashes) 1 (past is_hash cs) (raw_on hashes) refl (within_raw hashes)))

  pub apostrophe_on : (cs : Chars) → Meets c b (past_apostrophe cs) (past_apostrophe (cs ++ c ∷ b))
  apostrophe_on [] = within_unless b (c ∈ "'") _ _ (fails (λ d. d ∈ "'") refl c seam) (within_none b)
  apostrophe_on (d ∷ cs) = meets_if c b (d ∈ "'") _ _ _ _ refl (within_none b)

  in_char_on : (cs : Chars) → Meets c b (past_apostrophe (past is_in_char cs)) (past_apostrophe (past is_in_char (cs ++ c ∷ b)))
  in_char_on [] =
      elim (is_in_char c) as (λ x. Within b (past_apostrophe (if x then past is_in_char b else (c ∷ b)))) [
        | true ↦ within_in_char b
        | false ↦ apostrophe_on []
      ]
  in_char_on (d ∷ cs) =
      elim (is_in_char d) as (λ x. Meets c b (past_apostrophe (if x then past is_in_char cs else (d ∷ cs))) (past_apostrophe (if x then past is_in_char (cs ++ c ∷ b) else (d ∷ (cs ++ c ∷ b))))) [
        | true ↦ in_char_on cs
        | false ↦ apostrophe_on (d ∷ cs)
      ]

  behind_char : Within b (past_char (c ∷ b))
  behind_char =
      within_unless b (c ∈ "\\") _ _ (fails (λ d. d ∈ "\\") refl c seam)
      (within_if b (is_in_char c) _ _ (within_apostrophe b) (within_none b))

  pub char_on : (cs : Chars) → Meets c b (past_char cs) (past_char (cs ++ c ∷ b))
  char_on [] = behind_char
  char_on (d ∷ cs) =
      meets_if c b (d ∈ "\\") _ _ _ _
      (behind_on (λ ds. past_apostrophe (past is_in_char ds)) 1 cs in_char_on refl within_in_char)
      (meets_if c b (is_in_char d) _ _ _ _ (apostrophe_on cs) (within_none b))
