-- What scans have before them after each step.
use Rattle.std.proofs.Common.{◌≡◌, ℕ, suc, zero, ◌+◌, ◌-◌, ◌<◌, ◌≤◌, ◌==◌, Bool, true, false, ◌&&◌, if◌then◌else◌, [], ◌∷◌, length, drop, refl, sym, ap, subst, ◌∙◌, arith, add-one, eqb-true, ne_eqb, length-append, lit<}
use Rattle.std.specs.Prelude.{Option, Some, None, Result, nat_le, encode_utf8, encode_utf8_all}
use Rattle.std.proofs.lemmas.Bool.{both_ways, and_right}
use Rattle.std.proofs.lemmas.Bool.Decides.{nat_tests}
use Rattle.std.proofs.lemmas.Str.{encode_ascii}
use Rattle.ssr_syntax_lex.specs.Cursor.{Chars, stand_at, begins, run, past}
use Rattle.ssr_syntax_lex.specs.Characters.{◌∈◌, the_char, is_hash}
use Rattle.ssr_syntax_lex.specs.Scan.{past_comments, past_quoted, past_raw, past_raw_string, begins_with_hashes}
use Rattle.ssr_syntax_lex.specs.Private.Steps.{PassesOver}
use Rattle.ssr_syntax_lex.specs.declared.fault.FaultKind.{FaultKind}
use Rattle.ssr_syntax_lex.proofs.Eaten.{run-past, not_empty}

-- block comments
pub comments_closed : (depth : ℕ) (cs : Chars) → depth ≤ 0 → past_comments depth cs ≡ Some cs
comments_closed zero cs none = refl
comments_closed (suc depth) cs none = absurd (omega arith)

pub comment_ends : (depth : ℕ) (cs : Chars) → 0 < depth → (length cs == 0) ≡ true → past_comments depth cs ≡ None
comment_ends zero cs deep empty = absurd (omega arith)
comment_ends (suc depth) [] deep empty = refl
comment_ends (suc depth) (c ∷ cs) deep empty = let some = not_empty c cs in absurd (cc)

-- what stands before a pair, by the tests in order
steps : (depth c d : ℕ) (cs : Chars) (b e : Bool) → begins "/*" (c ∷ d ∷ cs) ≡ b → begins "*/" (c ∷ d ∷ cs) ≡ e → past_comments (suc depth) (c ∷ d ∷ cs) ≡ (if b then past_comments (suc (suc depth)) cs else (if e then past_comments depth cs else past_comments (suc depth) (d ∷ cs)))
steps depth c d cs b e opens closes =
    ap (λ x. if x then past_comments (suc (suc depth)) cs else (if begins "*/" (c ∷ d ∷ cs) then past_comments depth cs else past_comments (suc depth) (d ∷ cs))) opens
    ∙ ap (λ x. if b then past_comments (suc (suc depth)) cs else (if x then past_comments depth cs else past_comments (suc depth) (d ∷ cs))) closes

pub comment_opens : (depth : ℕ) (cs : Chars) → 0 < depth → begins "/*" cs ≡ true → past_comments depth cs ≡ past_comments (depth + 1) (drop 2 cs)
comment_opens zero cs deep here = absurd (omega arith)
comment_opens (suc depth) [] deep here = absurd (cc)
comment_opens (suc depth) (c ∷ []) deep here = absurd (both_ways _ (and_right (c ∈ "/") false refl) here)
comment_opens (suc depth) (c ∷ d ∷ cs) deep here =
    steps depth c d cs true _ here refl ∙ ap (λ n. past_comments n cs) (sym (add-one (suc depth)))

pub comment_closes : (depth : ℕ) (cs : Chars) → 0 < depth → begins "/*" cs ≡ false → begins "*/" cs ≡ true → past_comments depth cs ≡ past_comments (depth - 1) (drop 2 cs)
comment_closes zero cs deep opens here = absurd (omega arith)
comment_closes (suc depth) [] deep opens here = absurd (cc)
comment_closes (suc depth) (c ∷ []) deep opens here = absurd (both_ways _ (and_right (c ∈ "*") false refl) here)
comment_closes (suc depth) (c ∷ d ∷ cs) deep opens here =
    let less : depth ≡ suc depth - 1 = omega arith in
    steps depth c d cs false true opens here ∙ ap (λ n. past_comments n cs) less

pub comment_goes : (depth : ℕ) (cs : Chars) → 0 < depth → begins "/*" cs ≡ false → begins "*/" cs ≡ false → past_comments depth cs ≡ past_comments depth (drop 1 cs)
comment_goes zero cs deep opens closes = absurd (omega arith)
comment_goes (suc depth) [] deep opens closes = refl
comment_goes (suc depth) (c ∷ []) deep opens closes = refl
comment_goes (suc depth) (c ∷ d ∷ cs) deep opens closes = steps depth c d cs false false opens closes

-- how many characters a pair takes
pub pair_there : (a b : ℕ) (cs : Chars) → stand_at 0 (a ∷ b ∷ []) cs ≡ true → length (drop 2 cs) + 2 ≡ length cs
pair_there a b [] here = absurd (cc)
pair_there a b (c ∷ []) here = absurd (both_ways _ (and_right (c == a) false refl) here)
pair_there a b (c ∷ d ∷ cs) here = omega arith

pub one_there : (cs : Chars) → (length cs == 0) ≡ false → length (drop 1 cs) + 1 ≡ length cs
one_there [] some = absurd (cc)
one_there (c ∷ cs) some = omega arith

pub ruleset comment_steps = (comment_opens, comment_closes, comment_goes, comment_ends, comments_closed, pair_there, one_there)

-- strings
pub escape_takes_one : (cs : Chars) → past_quoted true cs ≡ past_quoted false (drop 1 cs)
escape_takes_one [] = refl
escape_takes_one (c ∷ cs) = refl

-- raw strings: a `#` that comes next, and none
pub hash_next : (cs : Chars) → begins "#" cs ≡ true → (past is_hash cs ≡ past is_hash (drop 1 cs)) × (length (run is_hash cs) ≡ 1 + length (run is_hash (drop 1 cs)))
hash_next [] here = absurd (cc)
hash_next (c ∷ cs) here = (
  ap (λ b. if b then past is_hash cs else (c ∷ cs)) here,
  ap (λ b. length (if b then c ∷ run is_hash cs else [])) here ∙ omega arith,
)

pub no_hash_next : (cs : Chars) → begins "#" cs ≡ false → (past is_hash cs ≡ cs) × (length (run is_hash cs) ≡ 0)
no_hash_next [] here = (refl, refl)
no_hash_next (c ∷ cs) here = (
  ap (λ b. if b then past is_hash cs else (c ∷ cs)) here,
  ap (λ b. length (if b then c ∷ run is_hash cs else [])) here,
)

pub none_in_run : (hashes counter all : ℕ) (cs : Chars) → begins "#" cs ≡ false → counter < hashes → counter + length (run is_hash cs) ≡ all → false ≡ nat_le hashes all
none_in_run hashes counter all cs here less counted =
    let empty = (no_hash_next cs here).1 in
    let fewer : all < hashes = omega (arith, empty) in
    grind (arith, nat_tests)

-- a `#` is no `"`
no_quote : (c : ℕ) → is_hash c ≡ true → (c ∈ "\"") ≡ false
no_quote c hash = ap (λ d. d ∈ "\"") (eqb-true c (the_char "#") hash)

raw_step : (hashes c : ℕ) (cs : Chars) (b : Bool) → (c ∈ "\"" && begins_with_hashes hashes cs) ≡ b → past_raw hashes (c ∷ cs) ≡ (if b then Some (drop hashes cs) else past_raw hashes cs)
raw_step hashes c cs b e = ap (λ x. if x then Some (drop hashes cs) else past_raw hashes cs) e

skips_hash : (hashes c : ℕ) (cs : Chars) (b : Bool) → is_hash c ≡ b → past_raw hashes (past is_hash cs) ≡ past_raw hashes cs → past_raw hashes (if b then past is_hash cs else (c ∷ cs)) ≡ past_raw hashes (c ∷ cs)
skips_hash hashes c cs true hash rest =
    rest ∙ sym (raw_step hashes c cs false (ap (λ b. b && begins_with_hashes hashes cs) (no_quote c hash)))
skips_hash hashes c cs false hash rest = refl

past_raw-past_hashes : (hashes : ℕ) (cs : Chars) → past_raw hashes (past is_hash cs) ≡ past_raw hashes cs
past_raw-past_hashes hashes [] = refl
past_raw-past_hashes hashes (c ∷ cs) = skips_hash hashes c cs (is_hash c) refl (past_raw-past_hashes hashes cs)

-- a `"` that doesn't close, and any other character
pub raw_stays : (hashes c : ℕ) (cs rest : Chars) → cs ≡ c ∷ rest → begins_with_hashes hashes rest ≡ false → past_raw hashes cs ≡ past_raw hashes (past is_hash rest)
raw_stays hashes c cs rest e few =
    ap (past_raw hashes) e ∙ (raw_step hashes c rest false (and_right (c ∈ "\"") (begins_with_hashes hashes rest) few) ∙ sym (past_raw-past_hashes hashes rest))

pub raw_goes : (hashes c : ℕ) (cs rest : Chars) → cs ≡ c ∷ rest → (c ≡ the_char "\"" → ⊥) → past_raw hashes cs ≡ past_raw hashes rest
raw_goes hashes c cs rest e other =
    ap (past_raw hashes) e ∙ raw_step hashes c rest false (ap (λ b. b && begins_with_hashes hashes rest) (ne_eqb c (the_char "\"") other))

pub past_shorter : (test : ℕ → Bool) (c : ℕ) (cs rest : Chars) → cs ≡ c ∷ rest → length (past test rest) < length cs
past_shorter test c cs rest e =
    omega (arith, ap length e, ap length (run-past test rest), length-append (run test rest) (past test rest))

pub next_shorter : (c : ℕ) (cs rest : Chars) → cs ≡ c ∷ rest → length rest < length cs
next_shorter c cs rest e = omega (arith, ap length e)

-- `#` is one byte
hash_bytes : (c : ℕ) (cs : Chars) (b : Bool) → is_hash c ≡ b → length (encode_utf8_all (run is_hash cs)) ≡ length (run is_hash cs) → length (encode_utf8_all (if b then c ∷ run is_hash cs else [])) ≡ length (if b then c ∷ run is_hash cs else [])
hash_bytes c cs true hash rest =
    let one : length (encode_utf8 c) ≡ 1 = ap (λ d. length (encode_utf8 d)) (eqb-true c (the_char "#") hash) ∙ ap length (encode_ascii (the_char "#") (lit< tt)) in
    omega (arith, one, rest, length-append (encode_utf8 c) (encode_utf8_all (run is_hash cs)))
hash_bytes c cs false hash rest = refl

-- `#` is one byte
pub hashes_bytes : (cs : Chars) → length (encode_utf8_all (run is_hash cs)) ≡ length (run is_hash cs)
hashes_bytes [] = refl
hashes_bytes (c ∷ cs) = hash_bytes c cs (is_hash c) refl (hashes_bytes cs)

-- a raw string behind its `r`, with the number of its `#` as the code has it
pub raw_string_is : (hashes : ℕ) (cs quote rest : Chars) → hashes ≡ length (encode_utf8_all (run is_hash cs)) → quote ≡ past is_hash cs → rest ≡ drop 1 quote → past_raw hashes rest ≡ past_raw_string cs
raw_string_is hashes cs quote rest count e f =
    ap (λ n. past_raw n rest) (count ∙ hashes_bytes cs) ∙ ap (past_raw (length (run is_hash cs))) (f ∙ ap (drop 1) e)

pub passes_same : (fault : FaultKind) (r : Result Unit FaultKind) (o p : Option Chars) (rest : Chars) → o ≡ p → PassesOver fault r o rest → PassesOver fault r p rest
passes_same fault r o p rest e passes = subst (λ (x : Option Chars). PassesOver fault r x rest) e passes
