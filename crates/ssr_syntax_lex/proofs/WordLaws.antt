-- That a word need be looked for only among those that begin as it does, and where the kinds of punctuation stand among all kinds.
use Rattle.std.proofs.Common.{◌≡◌, ℕ, ◌<◌, ◌≤◌, ◌==◌, Bool, true, false, not, ◌&&◌, ◌||◌, if◌then◌else◌, List, [], ◌∷◌, get_or, refl, sym, ap, subst, ne_eqb, ◌∙◌, arith}
use Rattle.std.specs.Prelude.{nat_le, nat_lt, bytes_eq, codes, slice_get, Some, None}
use Rattle.std.specs.List.{list_all}
use Rattle.std.specs.Char.{is_ascii_alphabetic}
use Rattle.std.proofs.lemmas.Bool.{and_from, and_parts, eqb-true, ltb-true, le-leb, lt-leb, not-true}
use Rattle.std.proofs.lemmas.Slice.Eq.{bytes_eq-Decides}
use Rattle.std.proofs.Math.Bool.{or-false}
use Rattle.unicode_ident.proofs.IdentLemmas.{is_xid_continue-ascii, is_xid_start-ascii}
use Rattle.unicode_ident.specs.Ident.{is_xid_start}
use Rattle.ssr_syntax_lex.specs.Characters.{◌∈◌, is_among, is_whitespace, is_digit, starts_word}
use Rattle.ssr_syntax_lex.specs.Words.{kind_in, word_kinds, word_kind, is_punctuation, marks, mark_in, mark_kind}
use Rattle.ssr_syntax_lex.specs.Private.Steps.{begins_between, beginning}
use Prim.Native.String.{String}
use Rattle.ssr_syntax_kinds.specs.declared.kinds.SyntaxKind.{SyntaxKind}
use Rattle.ssr_syntax_kinds.specs.declared.kinds.SyntaxKind.TheVariants as k
use Rattle.ssr_syntax_kinds.specs.contracts.kinds.SyntaxKind.{the_type}
use denote.Enum.Declared.{tag_of}

begins_so : (low high c : ℕ) (word : List ℕ) → slice_get word 0 ≡ Some c → low ≤ c → c ≤ high → begins_between low high word ≡ true
begins_so low high c [] e above below = absurd (cc)
begins_so low high c (d ∷ ds) e above below =
    let same : d ≡ c = cc in
    and_from _ _ (le-leb low d (omega (arith, same))) (le-leb d high (omega (arith, same)))

row_case : (low high : ℕ) (rows : List (String × SyntaxKind)) (word : List ℕ) (key : String) (kind : SyntaxKind) (same within : Bool) → begins_between low high word ≡ true → bytes_eq word (codes key) ≡ same → begins_between low high (codes key) ≡ within → kind_in (beginning low high rows) word ≡ kind_in rows word → kind_in (if within then (key, kind) ∷ beginning low high rows else beginning low high rows) word ≡ (if same then kind else kind_in rows word)
row_case low high rows word key kind true true begins e w rest = ap (λ b. if b then kind else kind_in (beginning low high rows) word) e
row_case low high rows word key kind false true begins e w rest = ap (λ b. if b then kind else kind_in (beginning low high rows) word) e ∙ rest
row_case low high rows word key kind false false begins e w rest = rest
row_case low high rows word key kind true false begins e w rest =
    let clash : true ≡ false = sym begins ∙ (ap (begins_between low high) ((bytes_eq-Decides word (codes key)).0 e) ∙ w) in absurd (cc)

kind_in-beginning : (low high : ℕ) (rows : List (String × SyntaxKind)) (word : List ℕ) → begins_between low high word ≡ true → kind_in (beginning low high rows) word ≡ kind_in rows word
kind_in-beginning low high [] word begins = refl
kind_in-beginning low high (row ∷ rows) word begins =
    row_case low high rows word row.0 row.1 (bytes_eq word (codes row.0)) (begins_between low high (codes row.0)) begins refl refl (kind_in-beginning low high rows word begins)

-- of a word whose bytes begin with this one
pub kind_by_letter : (low high c : ℕ) (word bytes : List ℕ) → bytes ≡ word → Some c ≡ slice_get bytes 0 → low ≤ c → c ≤ high → kind_in (beginning low high word_kinds) word ≡ word_kind word
unfolding word_kind
kind_by_letter low high c word bytes same first above below =
    kind_in-beginning low high word_kinds word (begins_so low high c word (sym (first ∙ ap (λ bs. slice_get bs 0) same)) above below)

-- the first byte is that at 0
pub first_is : (c : ℕ) (word bytes : List ℕ) → bytes ≡ word → Some c ≡ slice_get bytes 0 → get_or word 0 0 ≡ c
first_is c [] bytes same first = absurd (cc)
first_is c (d ∷ ds) bytes same first = cc

pub kind_of_nothing : (word bytes : List ℕ) → bytes ≡ word → None ≡ slice_get bytes 0 → k.IDENT ≡ word_kind word
unfolding word_kind
kind_of_nothing [] bytes same none = refl
kind_of_nothing (c ∷ cs) bytes same none = absurd (cc)

pub ruleset ascii_words = (is_xid_continue-ascii)

-- beyond ASCII `_` doesn't stand
pub no_underscore : (c : ℕ) → 128 ≤ c → is_xid_start c ≡ starts_word c
no_underscore c beyond = sym (ap (λ b. is_xid_start c || b) (ne_eqb c 95 (λ e. omega (arith, e))) ∙ or-false (is_xid_start c))

pub ruleset ascii_starts = (is_xid_start-ascii, no_underscore)

-- ** A character of punctuation is of no other class.
abbrev pub IsOfNoOther : ℕ → Type 0
IsOfNoOther c = (is_whitespace c ≡ false) × (starts_word c ≡ false) × (is_digit c ≡ false)

-- so is one of these, by computing
abbrev stands_apart : List ℕ → Bool
stands_apart [] = false
stands_apart (m ∷ []) = nat_lt m 128 && not (is_whitespace m) && not (is_ascii_alphabetic m || m == 95) && not (is_digit m)
stands_apart (m ∷ n ∷ ms) = false

apart_is : (c : ℕ) (ms : List ℕ) → stands_apart ms ≡ true → is_among c ms ≡ true → IsOfNoOther c
apart_is c [] apart is = absurd (cc)
apart_is c (m ∷ []) apart is =
    let digit = and_parts _ _ apart in
    let word = and_parts _ _ digit.0 in
    let white = and_parts _ _ word.0 in
    let same : m ≡ c = sym (eqb-true c m is) in
    subst IsOfNoOther same (
      not-true (is_whitespace m) white.1,
      ap (λ b. b || m == 95) (is_xid_start-ascii m (ltb-true m 128 white.0)) ∙ not-true (is_ascii_alphabetic m || m == 95) word.1,
      not-true (is_digit m) digit.1,
    )
apart_is c (m ∷ n ∷ ms) apart is = absurd (cc)

mark_step : (c : ℕ) (row : String × SyntaxKind) (rows : List (String × SyntaxKind)) (kind : SyntaxKind) (same : Bool) → (c ∈ row.0) ≡ same → stands_apart (codes row.0) ≡ true → (mark_in rows c ≡ Some kind → IsOfNoOther c) → (if same then Some row.1 else mark_in rows c) ≡ Some kind → IsOfNoOther c
mark_step c row rows kind true is apart rest e = apart_is c (codes row.0) apart is
mark_step c row rows kind false is apart rest e = rest e

mark_apart : (rows : List (String × SyntaxKind)) (c : ℕ) (kind : SyntaxKind) → list_all (λ row. stands_apart (codes row.0)) rows ≡ true → mark_in rows c ≡ Some kind → IsOfNoOther c
mark_apart [] c kind apart e = absurd (cc)
mark_apart (row ∷ rows) c kind apart e =
    let parts = and_parts _ _ apart in
    mark_step c row rows kind (c ∈ row.0) refl parts.0 (mark_apart rows c kind parts.1) e

pub marks_apart : (c : ℕ) (kind : SyntaxKind) → mark_kind c ≡ Some kind → IsOfNoOther c
unfolding mark_kind
marks_apart c kind e = mark_apart marks c kind refl e

-- the kinds of punctuation stand side by side
marks_between : (kind : SyntaxKind) → (nat_le 66 (tag_of the_type kind) && nat_le (tag_of the_type kind) 92) ≡ is_punctuation kind
marks_between k.WHITESPACE = refl
marks_between _ = refl

pub marks_from : (kind : SyntaxKind) → 66 ≤ tag_of the_type kind → nat_le (tag_of the_type kind) 92 ≡ is_punctuation kind
marks_from kind above = ap (λ b. b && nat_le (tag_of the_type kind) 92) (sym (le-leb 66 (tag_of the_type kind) above)) ∙ marks_between kind

pub no_marks_below : (kind : SyntaxKind) → tag_of the_type kind < 66 → false ≡ is_punctuation kind
no_marks_below kind under = ap (λ b. b && nat_le (tag_of the_type kind) 92) (sym (lt-leb 66 (tag_of the_type kind) under)) ∙ marks_between kind

pub ruleset mark_places = (marks_from, no_marks_below)
