-- No token of a text has a kind that is joined from several.
use Rattle.std.proofs.Common.{◌≡◌, ℕ, zero, suc, ◌+◌, ◌-◌, ◌==◌, nat_eq, Bool, true, false, ◌&&◌, ◌||◌, if◌then◌else◌, List, [], ◌∷◌, length, Some, None, refl, subst}
use Rattle.std.specs.Prelude.{Option, ⊤, bytes_eq, codes, drop}
use Rattle.std.specs.Option.{option_map, option_and_then}
use Rattle.std.specs.Str.{chars, encode_utf8_all}
use Rattle.std.proofs.lemmas.Bool.{and_parts, eqb-true}
use Prim.Native.String.{String}
use Rattle.ssr_syntax_kinds.specs.declared.kinds.SyntaxKind.{SyntaxKind}
use Rattle.ssr_syntax_kinds.specs.declared.kinds.SyntaxKind.TheVariants as k
use Rattle.ssr_syntax_kinds.specs.declared.range.TextRange.{TextRange}
use Rattle.ssr_syntax_lex.specs.Characters.{◌∈◌, is_whitespace, is_digit, starts_word, continues_word}
use Rattle.ssr_syntax_lex.specs.Cursor.{Chars, passes_at, begins, run, past}
use Rattle.ssr_syntax_lex.specs.Numbers.{number, number_kind, takes_point, takes_sign, with_point, has_exponent, with_sign, whole_run}
use Rattle.ssr_syntax_lex.specs.Raw.{Taken, token, closed, punctuation, begins_string, begins_raw_identifier, begins_lifetime, past_string}
use Rattle.ssr_syntax_lex.specs.Scan.{past_comments, past_char}
use Rattle.ssr_syntax_lex.specs.Tokens.{tokens, tokens_from, in_front, range_of, size, dots_behind}
use Rattle.ssr_syntax_lex.specs.Words.{kind_in, word_kind, word_kinds, mark_in, mark_kind, marks}
use Rattle.ssr_syntax_lex.specs.declared.tokens.RawToken.{RawToken}
use Rattle.ssr_syntax_places.specs.PlainCore.{size_of_kind}
use Rattle.ssr_syntax_places.proofs.Insides.{some_same}

abbrev pub IsSingle : SyntaxKind → Type 0
IsSingle kind = size_of_kind kind ≡ 1

-- what is taken, if anything is, is such a token
abbrev IsOk : Option Taken → Type 0
IsOk None = ⊤
IsOk (Some taken) = IsSingle taken.0

either : (b : Bool) (x y : Option Taken) → IsOk x → IsOk y → IsOk (if b then x else y)
either true x y h l = h
either false x y h l = l

closed_ok : (kind : SyntaxKind) (rest : Option Chars) → IsSingle kind → IsOk (closed kind rest)
closed_ok kind None is = tt
closed_ok kind (Some cs) is = is

-- ** Words, numbers and punctuation.

abbrev all_single : List (String × SyntaxKind) → Bool
all_single [] = true
all_single (row ∷ rows) = nat_eq (size_of_kind row.1) 1 && all_single rows

row_single : (row : String × SyntaxKind) (rows : List (String × SyntaxKind)) → all_single (row ∷ rows) ≡ true → IsSingle row.1 × (all_single rows ≡ true)
row_single row rows all =
    let halves = and_parts (nat_eq (size_of_kind row.1) 1) (all_single rows) all in
    (eqb-true (size_of_kind row.1) 1 halves.0, halves.1)

kind_single : (rows : List (String × SyntaxKind)) (word : List ℕ) → all_single rows ≡ true → IsSingle (kind_in rows word)
kind_single [] word all = refl
kind_single (row ∷ rows) word all =
    let halves = row_single row rows all in
    pick (bytes_eq word (codes row.0)) row.1 (kind_in rows word) halves.0 (kind_single rows word halves.1) where
      pick : (b : Bool) (x y : SyntaxKind) → IsSingle x → IsSingle y → IsSingle (if b then x else y)
      pick true x y h l = h
      pick false x y h l = l

word_single : (word : List ℕ) → IsSingle (word_kind word)
unfolding word_kind
word_single word = kind_single word_kinds word refl

number_single : (dots : ℕ) (cs : Chars) → IsSingle (number dots cs).0
unfolding number
number_single dots cs = choice (dots == 1) where
  float : (b : Bool) → IsSingle (if b then k.FLOAT_NUMBER else k.INT_NUMBER)
  float true = refl
  float false = refl

  choice : (b : Bool) → IsSingle (if b then (let taken : Taken = (k.INT_NUMBER, past is_digit cs) in taken)
      else (let taken : Taken = (number_kind (whole_run cs), (with_sign (with_point (whole_run cs))).1) in taken)).0
  choice true = refl
  choice false =
      float (takes_point (whole_run cs) || takes_sign (with_point (whole_run cs)) || has_exponent (with_sign (with_point (whole_run cs))).0)

taken_mark : (cs : Chars) (o : Option SyntaxKind) → ((kind : SyntaxKind) → o ≡ Some kind → IsSingle kind)
    → IsOk (option_map (λ kind. let taken : Taken = (kind, cs) in taken) o)
taken_mark cs None all = tt
taken_mark cs (Some kind) all = all kind refl

mark_single : (rows : List (String × SyntaxKind)) (c : ℕ) (kind : SyntaxKind) → all_single rows ≡ true → mark_in rows c ≡ Some kind → IsSingle kind
mark_single [] c kind all e = absurd (cc)
mark_single (row ∷ rows) c kind all e =
    let halves = row_single row rows all in
    pick (c ∈ row.0) row.1 (mark_in rows c) halves.0 (λ other. mark_single rows c kind halves.1 other) e where
      pick : (b : Bool) (x : SyntaxKind) (o : Option SyntaxKind) → IsSingle x → (o ≡ Some kind → IsSingle kind) → (if b then Some x else o) ≡ Some kind → IsSingle kind
      pick true x o h more e = let same : x ≡ kind = cc in subst IsSingle same h
      pick false x o h more e = more e

punctuation_ok : (cs : Chars) → IsOk (punctuation cs)
unfolding mark_kind
punctuation_ok [] = tt
punctuation_ok (c ∷ cs) = taken_mark cs (mark_in marks c) (λ kind e. mark_single marks c kind refl e)

-- ** Tokens.

token_ok : (dots : ℕ) (cs : Chars) → IsOk (token dots cs)
unfolding token
token_ok dots cs =
    either (passes_at 0 is_whitespace cs) _ _ refl
    (either (begins "//" cs) _ _ refl
    (either (begins "/*" cs) _ _ (closed_ok k.COMMENT (past_comments 1 (drop 2 cs)) refl)
    (either (begins_string cs) _ _ (closed_ok k.STRING (past_string cs) refl)
    (either (begins "b" cs && begins_string (drop 1 cs)) _ _ (closed_ok k.BYTE_STRING (past_string (drop 1 cs)) refl)
    (either (begins "c" cs && begins_string (drop 1 cs)) _ _ (closed_ok k.C_STRING (past_string (drop 1 cs)) refl)
    (either (begins "b'" cs) _ _ (closed_ok k.BYTE (past_char (drop 2 cs)) refl)
    (either (begins_raw_identifier cs) _ _ refl
    (either (passes_at 0 starts_word cs) _ _ (word_single (encode_utf8_all (run continues_word cs)))
    (either (begins_lifetime cs) _ _ refl
    (either (begins "'" cs) _ _ (closed_ok k.CHAR (past_char (drop 1 cs)) refl)
    (either (passes_at 0 is_digit cs) _ _ (number_single dots cs) (punctuation_ok cs))))))))))))

abbrev pub AllSingle : List RawToken → Type 0
AllSingle [] = ⊤
AllSingle (t ∷ ts) = IsSingle t.kind × AllSingle ts

put_front : (kind : SyntaxKind) (range : TextRange) (o : Option (List RawToken)) (ts : List RawToken) → IsSingle kind
    → ((us : List RawToken) → o ≡ Some us → AllSingle us) → option_map (in_front kind range) o ≡ Some ts → AllSingle ts
put_front kind range None ts is all e = absurd (cc)
put_front kind range (Some us) ts is all e =
    let same : in_front kind range us ≡ ts = some_same (in_front kind range us) ts e in
    subst AllSingle same (is, all us refl)

-- the tokens behind the first one
abbrev others : ℕ → ℕ → ℕ → Chars → Taken → Option (List RawToken)
others fuel start dots cs taken =
    let count : ℕ = size cs - size taken.1 in
    option_map (in_front taken.0 (range_of start count)) (tokens_from fuel (start + count) (dots_behind dots taken.0) taken.1)

taken_front : (fuel start dots : ℕ) (cs : Chars) (o : Option Taken) (ts : List RawToken) → IsOk o
    → ((start dots : ℕ) (rest : Chars) (us : List RawToken) → tokens_from fuel start dots rest ≡ Some us → AllSingle us)
    → option_and_then (others fuel start dots cs) o ≡ Some ts → AllSingle ts
taken_front fuel start dots cs None ts is all e = absurd (cc)
taken_front fuel start dots cs (Some taken) ts is all e =
    let count : ℕ = size cs - size taken.1 in
    put_front taken.0 (range_of start count) (tokens_from fuel (start + count) (dots_behind dots taken.0) taken.1) ts is
    (λ us f. all (start + count) (dots_behind dots taken.0) taken.1 us f) e

from_single : (fuel start dots : ℕ) (cs : Chars) (ts : List RawToken) → tokens_from fuel start dots cs ≡ Some ts → AllSingle ts
from_single fuel start dots [] ts e = let same : [] ≡ ts = some_same [] ts e in subst AllSingle same tt
from_single zero start dots (c ∷ cs) ts e = absurd (cc)
from_single (suc fuel) start dots (c ∷ cs) ts e =
    taken_front fuel start dots (c ∷ cs) (token dots (c ∷ cs)) ts (token_ok dots (c ∷ cs))
    (λ start dots rest us f. from_single fuel start dots rest us f) e

pub all_raw_single : (text : List ℕ) (raw : List RawToken) → tokens text ≡ Some raw → AllSingle raw
unfolding tokens
all_raw_single text raw e = from_single (length (chars text)) 0 0 (chars text) raw e
