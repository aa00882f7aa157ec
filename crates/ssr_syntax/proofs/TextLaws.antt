-- Laws of the reading of texts: its trees fit and spell the text, and what fits is read.
use Rattle.std.proofs.Common.{◌≡◌, ℕ, suc, ◌^◌, ◌<◌, ◌≤◌, Bool, true, false, ◌&&◌, if◌then◌else◌, List, [], length, Some, None, ◌⊎◌, inl, inr, refl, sym, ◌∙◌, ap, subst, arith}
use Rattle.std.specs.Prelude.{All, nat_lt, reverse, Option, Result, Ok, Err, IfOk}
use Rattle.std.specs.Result.{IsErr, IsErrAnd}
use Rattle.std.specs.Str.{IsUtf8}
use Rattle.std.proofs.lemmas.Bool.{ltb-true, ltb-false, lt-ltb, le-ltb}
use Rattle.ssr_syntax_kinds.specs.declared.reach.Reach.{Reach}
use Rattle.ssr_syntax_kinds.specs.declared.reach.Reach.TheVariants.{Stated}
use Rattle.ssr_syntax_kinds.specs.declared.kinds.SyntaxKind.{SyntaxKind}
use Rattle.ssr_syntax_lex.specs.declared.tokens.RawToken.{RawToken}
use Rattle.ssr_syntax_lex.specs.Tokens.{tokens, spell as spelled_by}
use Rattle.ssr_syntax_lex.proofs.Shared.{tokens_tile, tiles_spell}
use Rattle.ssr_syntax_tree.specs.Syntax.{Syntax, nothing, branch, depth_of, source_of, tokens_of, most_deep}
use Rattle.ssr_syntax_kinds.specs.declared.fragment.Fragment.{Fragment}
use Rattle.ssr_syntax_types.specs.declared.goals.Goal.{Goal}
use Rattle.ssr_syntax_types.specs.declared.goals.Goal.TheVariants as goals
use Rattle.ssr_syntax_forms.specs.declared.fault.Fault.{Fault}
use Rattle.ssr_syntax_forms.specs.declared.fault.Fault.TheVariants as faults
use Rattle.ssr_syntax.specs.declared.syntax_error.SyntaxError.{SyntaxError}
use Rattle.ssr_syntax.specs.declared.syntax_error.SyntaxError.TheVariants as errors
use Rattle.ssr_syntax_forms.specs.Trees.{Forest, done, tree, height}
use Rattle.ssr_syntax_rows.specs.Leaves.{leaves}
use Rattle.ssr_syntax_forms.proofs.Shared.{IsShallow, shallow_of, goals_by_rules}
use Rattle.ssr_syntax_rows.specs.Lossless.{whole_tree, IsTrimmed}
use Rattle.ssr_syntax.specs.Reading.{reading, most_levels, IsRead, IsReadOf, one_tree, tree_reading, unless_misnamed, lexed_reading, short_reading, file_reading, file_reading_of, fragment_reading, fragment_reading_of, trimmed, goal_of, error_of, Answers, AnswersTrimmed, FitsTokens, FitsFileOf, FitsFragmentOf, IsTreeOfFile, IsTreeOfFileOf, IsTreeOfFragment, IsTreeOfFragmentOf, IsThatOrTooDeep, IsLexFault, Refuses}
use Rattle.ssr_syntax_rows.specs.Solid.{pieces, begins_solid, solid_tokens}
use Rattle.ssr_syntax_rows.specs.MacroRules.{misnames_macros}
use Rattle.ssr_syntax_rows.proofs.Shared.{AreSolid, trimmed-whole, trimmed-root, IsUtf8-trim, trim_shorter, whole-depth, whole-source, whole-texts}
use Rattle.ssr_syntax.specs.Grammar.{grammar_of}
use Rattle.ssr_syntax.proofs.Whole.{one_fits, reading_fits, reading_complete}
use Rattle.ssr_syntax.proofs.Texts.{ReadsAs, is_read, read_given, reading_is, read_is, read_ok, read_too_deep}

-- ** What is read fits.

ok_of : (reach : Reach) {r : Result Forest Fault} (goal : Goal) (text : List ℕ) (raw : List RawToken) (s : Syntax) → reading reach goal (solid_tokens raw) ≡ r
    → ◌≡◌ {A = Result Syntax SyntaxError} (elim r [ Ok z ↦ one_tree z (pieces text raw) | Err e ↦ Err (error_of e) ]) (Ok s)
    → (z : Forest) × (reading reach goal (solid_tokens raw) ≡ Ok z)
ok_of reach {r = Ok z} goal text raw s e h = (z, e)
ok_of reach {r = Err x} goal text raw s e h = cc

named_tree : (w s : Syntax) (b : Bool) → misnames_macros w ≡ b
    → ◌≡◌ {A = Result Syntax SyntaxError} (if b then Err errors.NoTree else Ok w) (Ok s) → (w ≡ s) × (misnames_macros w ≡ false)
named_tree w s true e h = cc
named_tree w s false e h = (cc, e)

ok_tree : (w s : Syntax) (b : Bool) → nat_lt most_deep (depth_of w) ≡ b
    → ◌≡◌ {A = Result Syntax SyntaxError} (if b then Err errors.TooDeep else unless_misnamed w) (Ok s)
    → (w ≡ s) × (misnames_macros w ≡ false) × (depth_of w ≤ most_deep)
ok_tree w s true e h = cc
ok_tree w s false e h =
    let named = named_tree w s (misnames_macros w) refl h in
    (named.0, named.1, ltb-false most_deep (depth_of w) e)

abbrev IsWhole : List ℕ → List RawToken → Syntax → Type 0
IsWhole text raw s =
    (kind : SyntaxKind) × (kids : Forest) × AreSolid (leaves kids) × (whole_tree kind kids (pieces text raw) ≡ s)

pub tokens_sound : (reach : Reach) (goal : Goal) (text : List ℕ) (raw : List RawToken) (s : Syntax) → spelled_by text raw ≡ text
    → tree_reading reach goal text raw ≡ Ok s
    → FitsTokens reach goal text raw s × (source_of s ≡ text) × (depth_of s ≤ most_deep) × IsWhole text raw s
tokens_sound reach goal text raw s spells e =
    let was = ok_of reach goal text raw s refl e in
    let r = is_read reach goal text raw was.0 was.1 in
    let w : Syntax = whole_tree r.0 r.1 (pieces text raw) in
    let t = ok_tree w s (nat_lt most_deep (depth_of w)) refl (sym (read_is reach goal text raw r.0 r.1 r.3) ∙ e) in (
      (
        r.0,
        r.1,
        goals_by_rules (grammar_of reach) most_levels goal (tree r.0 r.1 done) (solid_tokens raw) []
            (reading_fits reach goal (solid_tokens raw) (tree r.0 r.1 done) r.3.reads),
        sym t.0,
        ap misnames_macros (sym t.0) ∙ t.1,
      ),
      ap source_of (sym t.0) ∙ whole-source text raw r.0 r.1 r.3.are_solid spells,
      subst (λ v. depth_of v ≤ most_deep) t.0 t.2,
      (r.0, r.1, r.3.are_solid, t.0),
    )

-- ** What fits is read.

-- what a reading says of a tree
abbrev pub Told : Result Syntax SyntaxError → Syntax → Type 0
Told read s = (read ≡ Ok s) ⊎ ((read ≡ Err errors.TooDeep) × (most_deep < depth_of s))

told_whole : (reach : Reach) (goal : Goal) (text : List ℕ) (raw : List RawToken) (kind : SyntaxKind) (kids : Forest) (b : Bool) → ReadsAs reach goal text raw kind kids
    → misnames_macros (whole_tree kind kids (pieces text raw)) ≡ false → nat_lt most_deep (height kids) ≡ b
    → Told (tree_reading reach goal text raw) (whole_tree kind kids (pieces text raw))
told_whole reach goal text raw kind kids true r named e =
    inr (read_too_deep reach goal text raw kind kids r e, omega (arith, ltb-true most_deep (height kids) e, whole-depth kind kids (pieces text raw)))
told_whole reach goal text raw kind kids false r named e = inl (read_ok reach goal text raw kind kids r e named)

deeper_than : (kind : SyntaxKind) (kids : Forest) (b : Bool) → nat_lt most_deep (height kids) ≡ b
    → (IsShallow (suc most_deep) (tree kind kids done) → ⊥) → most_deep < height kids
deeper_than kind kids true e h = ltb-true most_deep (height kids) e
deeper_than kind kids false e h = absurd (h (shallow_of kids most_deep (ltb-false most_deep (height kids) e), tt))

pub tokens_complete : (reach : Reach) (goal : Goal) (text : List ℕ) (raw : List RawToken) (s : Syntax) → FitsTokens reach goal text raw s
    → Told (tree_reading reach goal text raw) s
tokens_complete reach goal text raw s (kind, kids, fits, is, named) =
    subst (Told (tree_reading reach goal text raw)) (sym is)
    (elim (reading_complete reach goal (solid_tokens raw) (tree kind kids done) fits) [
      | inl e ↦ told_whole reach goal text raw kind kids (nat_lt most_deep (height kids)) (read_given reach goal text raw kind kids e)
          (ap misnames_macros (sym is) ∙ named) refl
      | inr e ↦ inr (
        reading_is reach goal text raw (Err faults.TooDeep) e.0,
        omega (arith, deeper_than kind kids (nat_lt most_deep (height kids)) refl e.1, whole-depth kind kids (pieces text raw)),
      )
    ])

-- ** By the text.

abbrev Lexed : (List RawToken → Result Syntax SyntaxError) → List ℕ → List ℕ → Syntax → Type 0
Lexed read inner text s = (length text < 2 ^ 32) × ((raw : List RawToken) × (tokens inner ≡ Some raw) × (read raw ≡ Ok s))

lexed_ok : (read : List RawToken → Result Syntax SyntaxError) (inner : List ℕ) (s : Syntax) (o : Option (List RawToken)) → tokens inner ≡ o
    → ◌≡◌ {A = Result Syntax SyntaxError} (elim o [ None ↦ Err errors.Lex | Some raw ↦ read raw ]) (Ok s)
    → (raw : List RawToken) × (tokens inner ≡ Some raw) × (read raw ≡ Ok s)
lexed_ok read inner s None e h = cc
lexed_ok read inner s (Some raw) e h = (raw, e, h)

short_ok : (read : List RawToken → Result Syntax SyntaxError) (inner text : List ℕ) (s : Syntax) (b : Bool) → nat_lt (length text) (2 ^ 32) ≡ b
    → ◌≡◌ {A = Result Syntax SyntaxError} (if b then lexed_reading read inner else Err errors.TooLong) (Ok s) → Lexed read inner text s
short_ok read inner text s true e h = (ltb-true (length text) (2 ^ 32) e, lexed_ok read inner s (tokens inner) refl h)
short_ok read inner text s false e h = cc

reads_short : (read : List RawToken → Result Syntax SyntaxError) (inner text : List ℕ) (raw : List RawToken)
    → length text < 2 ^ 32 → tokens inner ≡ Some raw → short_reading (lexed_reading read inner) text ≡ read raw
reads_short read inner text raw lt e =
    ap (λ b. if b then lexed_reading read inner else Err errors.TooLong) (lt-ltb (length text) (2 ^ 32) lt)
    ∙ ap (elim [ None ↦ Err errors.Lex | Some ts ↦ read ts ]) e

spells_text : (text : List ℕ) (raw : List RawToken) → IsUtf8 text → tokens text ≡ Some raw → spelled_by text raw ≡ text
spells_text text raw utf8 e = tiles_spell text raw (tokens_tile text raw utf8 e)

-- why a text isn't lexed is why it isn't read
fault_refused : (read : List RawToken → Result Syntax SyntaxError) (text : List ℕ) (e : SyntaxError) → IsLexFault text e
    → Refuses e (short_reading (lexed_reading read text) text) text
fault_refused read text errors.Lex h = (
  λ is. h.0,
  λ no. ap (λ b. if b then lexed_reading read text else Err errors.TooLong) (lt-ltb (length text) (2 ^ 32) h.0)
      ∙ ap (elim [ None ↦ Err errors.Lex | Some ts ↦ read ts ]) h.1,
)
fault_refused read text errors.TooLong h =
    (λ is. cc, λ no. ap (λ b. if b then lexed_reading read text else Err errors.TooLong) (le-ltb (length text) (2 ^ 32) h))
fault_refused read text errors.Memory h = (λ is. h, λ no. absurd (no refl))
fault_refused read text errors.NoTree h = absurd h
fault_refused read text errors.TooDeep h = absurd h

-- the same of a text that is read as another is, and of one that is too long
pub as_refused : (e : SyntaxError) (read other : Result Syntax SyntaxError) (inner text : List ℕ) → length text < 2 ^ 32 → other ≡ read
    → Refuses e read inner → Refuses e other text
as_refused e read other inner text lt same h = (λ is. lt, λ no. same ∙ h.1 no)

pub too_long : (read : Result Syntax SyntaxError) (text : List ℕ) (e : SyntaxError) → (e ≡ errors.TooLong) × (2 ^ 32 ≤ length text)
    → Refuses e (short_reading read text) text
too_long read text e h =
    subst (λ x. Refuses x (short_reading read text) text) (sym h.0)
    (λ is. cc, λ no. ap (λ b. if b then read else Err errors.TooLong) (le-ltb (length text) (2 ^ 32) h.1))

-- ** Files.

pub file_sound_of : (reach : Reach) (text : List ℕ) (s : Syntax) → IsUtf8 text → file_reading_of reach text ≡ Ok s → IsTreeOfFileOf reach text s
unfolding file_reading_of
file_sound_of reach text s utf8 e =
    let l = short_ok (tree_reading reach goals.File text) text text s (nat_lt (length text) (2 ^ 32)) refl e in
    let raw : List RawToken = l.1.0 in
    let t = tokens_sound reach goals.File text raw s (spells_text text raw utf8 l.1.1) l.1.2 in
    record {
      short = l.0;
      fits = (raw, l.1.1, t.0);
      spells = t.1;
      shallow = t.2;
      trimmed_nodes = subst (λ v. IsTrimmed v.children) t.3.3 (trimmed-whole t.3.0 t.3.1 (pieces text raw) t.3.2);
    }

-- each token of the tree is a text
pub file_texts_of : (reach : Reach) (text : List ℕ) (s : Syntax) → IsUtf8 text → file_reading_of reach text ≡ Ok s → All (λ token. IsUtf8 token.text) (tokens_of s)
unfolding file_reading_of
file_texts_of reach text s utf8 e =
    let l = short_ok (tree_reading reach goals.File text) text text s (nat_lt (length text) (2 ^ 32)) refl e in
    let raw : List RawToken = l.1.0 in
    let whole = (tokens_sound reach goals.File text raw s (spells_text text raw utf8 l.1.1) l.1.2).3 in
    subst (λ v. All (λ token. IsUtf8 token.text) (tokens_of v)) whole.3
    (whole-texts text raw whole.0 whole.1 utf8 (tokens_tile text raw utf8 l.1.1) whole.2)

pub file_answers : (reach : Reach) (text : List ℕ) (r : Result Syntax SyntaxError) → IsUtf8 text → Answers r (file_reading_of reach text) text → IfOk r (IsTreeOfFileOf reach text)
file_answers reach text (Ok s) utf8 h = file_sound_of reach text s utf8 h
file_answers reach text (Err e) utf8 h = tt

pub file_fault : (reach : Reach) (text given : List ℕ) (e : SyntaxError) → given ≡ text → IsLexFault given e → Refuses e (file_reading_of reach text) text
unfolding file_reading_of
file_fault reach text given e same h =
    subst (λ t. Refuses e (short_reading (lexed_reading (tree_reading reach goals.File t) t) t) t) same
    (fault_refused (tree_reading reach goals.File given) given e h)

pub file_too_long : (reach : Reach) (text : List ℕ) (e : SyntaxError) → (e ≡ errors.TooLong) × (2 ^ 32 ≤ length text) → Refuses e (file_reading_of reach text) text
unfolding file_reading_of
file_too_long reach text e h = too_long (lexed_reading (tree_reading reach goals.File text) text) text e h

read_alike : (r read other : Result Syntax SyntaxError) (text : List ℕ) → other ≡ read → Answers r read text → Answers r other text
read_alike r read other text same h = subst (λ w. Answers r w text) (sym same) h

pub file_lexed : (reach : Reach) (text given : List ℕ) (raw : List RawToken) (r : Result Syntax SyntaxError) → given ≡ text → length given < 2 ^ 32
    → tokens given ≡ Some raw → Answers r (tree_reading reach goals.File text raw) text → Answers r (file_reading_of reach text) text
unfolding file_reading_of
file_lexed reach text given raw r same lt e h =
    read_alike r (tree_reading reach goals.File text raw) (short_reading (lexed_reading (tree_reading reach goals.File text) text) text) text
    (reads_short (tree_reading reach goals.File text) text text raw (subst (λ t. length t < 2 ^ 32) same lt) (ap tokens (sym same) ∙ e)) h

pub told_ok : (read : Result Syntax SyntaxError) (s v : Syntax) → Told read s → read ≡ Ok v → v ≡ s
told_ok read s v (inl k) h = cc (h, k)
told_ok read s v (inr k) h = absurd (cc (h, k.0))

pub told_err : (read : Result Syntax SyntaxError) (s : Syntax) (e : SyntaxError) → Told read s → read ≡ Err e → (e ≡ errors.TooDeep) × (most_deep < depth_of s)
told_err read s e (inl k) h = absurd (cc (h, k))
told_err read s e (inr k) h = (cc (h, k.0), k.1)

file_told : (reach : Reach) (text : List ℕ) (s : Syntax) → length text < 2 ^ 32 → FitsFileOf reach text s → Told (file_reading_of reach text) s
unfolding file_reading_of
file_told reach text s lt (raw, e, fits) =
    subst (λ w. Told w s) (sym (reads_short (tree_reading reach goals.File text) text text raw lt e)) (tokens_complete reach goals.File text raw s fits)

pub file_complete : (reach : Reach) (text : List ℕ) (s : Syntax) (r : Result Syntax SyntaxError) → length text < 2 ^ 32 → FitsFileOf reach text s
    → Answers r (file_reading_of reach text) text → IsThatOrTooDeep (λ v. v) s r
file_complete reach text s (Ok v) lt fits h = told_ok (file_reading_of reach text) s v (file_told reach text s lt fits) h
file_complete reach text s (Err x) lt fits h = λ m. told_err (file_reading_of reach text) s x (file_told reach text s lt fits) (h.1 m)

-- ** Fragments.

inside : (reach : Reach) (goal : Goal) (inner : List ℕ) (raw : List RawToken) (s : Syntax) (b : Bool) → (begins_solid raw && begins_solid (reverse raw)) ≡ b
    → ◌≡◌ {A = Result Syntax SyntaxError} (if b then tree_reading reach goal inner raw else Err errors.NoTree) (Ok s)
    → ((begins_solid raw && begins_solid (reverse raw)) ≡ true) × (tree_reading reach goal inner raw ≡ Ok s)
inside reach goal inner raw s true e h = (e, h)
inside reach goal inner raw s false e h = cc

abbrev fragment_reads : Reach → Fragment → List ℕ → List RawToken → Result Syntax SyntaxError
fragment_reads reach fragment inner raw =
    if begins_solid raw && begins_solid (reverse raw) then tree_reading reach (goal_of fragment) inner raw else Err errors.NoTree

pub fragment_sound_of : (reach : Reach) (fragment : Fragment) (text : List ℕ) (s : Syntax) → IsUtf8 (trimmed text) → fragment_reading_of reach fragment text ≡ Ok s
    → IsTreeOfFragmentOf reach fragment text s
unfolding fragment_reading_of
fragment_sound_of reach fragment text s utf8 e =
    let inner : List ℕ = trimmed text in
    let l = short_ok (fragment_reads reach fragment inner) inner text s (nat_lt (length text) (2 ^ 32)) refl e in
    let raw : List RawToken = l.1.0 in
    let was = inside reach (goal_of fragment) inner raw s (begins_solid raw && begins_solid (reverse raw)) refl l.1.2 in
    let t = tokens_sound reach (goal_of fragment) inner raw s (spells_text inner raw utf8 l.1.1) was.1 in
    record {
      short = l.0;
      fits = (raw, l.1.1, was.0, t.0);
      spells = t.1;
      shallow = t.2;
      trimmed_nodes = subst (λ v. IsTrimmed (branch v.kind v.children nothing)) t.3.3 (trimmed-root inner raw t.3.0 t.3.1 t.3.2 was.0);
    }

fragment_told : (reach : Reach) (fragment : Fragment) (text : List ℕ) (s : Syntax) → length text < 2 ^ 32 → FitsFragmentOf reach fragment text s
    → Told (fragment_reading_of reach fragment text) s
unfolding fragment_reading_of
fragment_told reach fragment text s lt (raw, e, outside, fits) =
    let inner : List ℕ = trimmed text in
    subst (λ w. Told w s)
    (sym (reads_short (fragment_reads reach fragment inner) inner text raw lt e
    ∙ ap (λ b. if b then tree_reading reach (goal_of fragment) inner raw else Err errors.NoTree) outside))
    (tokens_complete reach (goal_of fragment) inner raw s fits)

pub fragment_answers : (reach : Reach) (fragment : Fragment) (text : List ℕ) (r : Result Syntax SyntaxError) → IsUtf8 text
    → Answers r (fragment_reading_of reach fragment text) text → IfOk r (IsTreeOfFragmentOf reach fragment text)
fragment_answers reach fragment text (Ok s) utf8 h = fragment_sound_of reach fragment text s (IsUtf8-trim text utf8) h
fragment_answers reach fragment text (Err e) utf8 h = tt

pub fragment_complete : (reach : Reach) (fragment : Fragment) (text : List ℕ) (s : Syntax) (r : Result Syntax SyntaxError) → length text < 2 ^ 32
    → FitsFragmentOf reach fragment text s → Answers r (fragment_reading_of reach fragment text) text → IsThatOrTooDeep (λ v. v) s r
fragment_complete reach fragment text s (Ok v) lt fits h = told_ok (fragment_reading_of reach fragment text) s v (fragment_told reach fragment text s lt fits) h
fragment_complete reach fragment text s (Err x) lt fits h = λ m. told_err (fragment_reading_of reach fragment text) s x (fragment_told reach fragment text s lt fits) (h.1 m)

pub trimmed_complete : (reach : Reach) (fragment : Fragment) (text : List ℕ) (s : Syntax) (r : Result (Syntax × ℕ) SyntaxError) → length text < 2 ^ 32
    → FitsFragmentOf reach fragment text s → AnswersTrimmed r (fragment_reading_of reach fragment text) text → IsThatOrTooDeep (λ v. v.0) s r
trimmed_complete reach fragment text s (Ok v) lt fits h = told_ok (fragment_reading_of reach fragment text) s v.0 (fragment_told reach fragment text s lt fits) h.0
trimmed_complete reach fragment text s (Err x) lt fits h = λ m. told_err (fragment_reading_of reach fragment text) s x (fragment_told reach fragment text s lt fits) (h.1 m)

pub fragment_too_long : (reach : Reach) (fragment : Fragment) (text : List ℕ) (e : SyntaxError) → (e ≡ errors.TooLong) × (2 ^ 32 ≤ length text)
    → Refuses e (fragment_reading_of reach fragment text) text
unfolding fragment_reading_of
fragment_too_long reach fragment text e h =
    too_long (lexed_reading (fragment_reads reach fragment (trimmed text)) (trimmed text)) text e h

-- a short text is read as its inner one is
pub short_is : (read : Result Syntax SyntaxError) (text : List ℕ) → length text < 2 ^ 32 → short_reading read text ≡ read
short_is read text lt = ap (λ b. if b then read else Err errors.TooLong) (lt-ltb (length text) (2 ^ 32) lt)

pub fragment_fault : (reach : Reach) (fragment : Fragment) (text given : List ℕ) (e : SyntaxError) → given ≡ text → IsUtf8 text → length text < 2 ^ 32
    → IsLexFault (trimmed given) e → Refuses e (fragment_reading_of reach fragment text) text
unfolding fragment_reading_of
fragment_fault reach fragment text given e same utf8 lt h =
    let inner : List ℕ = trimmed text in
    let reads : Result Syntax SyntaxError = lexed_reading (fragment_reads reach fragment inner) inner in
    let shorter : length inner < 2 ^ 32 = omega (arith, lt, trim_shorter text utf8) in
    as_refused e (short_reading reads inner) (short_reading reads text) inner text lt
    (short_is reads text lt ∙ sym (short_is reads inner shorter))
    (fault_refused (fragment_reads reach fragment inner) inner e (subst (λ t. IsLexFault (trimmed t) e) same h))

-- what a fragment's tokens are read as
abbrev outside : List RawToken → Bool
outside raw = begins_solid raw && begins_solid (reverse raw)

fragment_lexed : (reach : Reach) (fragment : Fragment) (text : List ℕ) (raw : List RawToken) → length text < 2 ^ 32
    → tokens (trimmed text) ≡ Some raw → fragment_reading_of reach fragment text ≡ fragment_reads reach fragment (trimmed text) raw
unfolding fragment_reading_of
fragment_lexed reach fragment text raw lt e = reads_short (fragment_reads reach fragment (trimmed text)) (trimmed text) text raw lt e

pub fragment_comment : (reach : Reach) (fragment : Fragment) (text : List ℕ) (raw : List RawToken) → length text < 2 ^ 32
    → tokens (trimmed text) ≡ Some raw → false ≡ outside raw → Refuses errors.NoTree (fragment_reading_of reach fragment text) text
fragment_comment reach fragment text raw lt e comment = (
  λ is. lt,
  λ other. fragment_lexed reach fragment text raw lt e
      ∙ ap (λ b. if b then tree_reading reach (goal_of fragment) (trimmed text) raw else Err errors.NoTree) (sym comment),
)

pub fragment_read : (reach : Reach) (fragment : Fragment) (text : List ℕ) (raw : List RawToken) (goal : Goal) → length text < 2 ^ 32
    → tokens (trimmed text) ≡ Some raw → true ≡ outside raw → goal ≡ goal_of fragment
    → fragment_reading_of reach fragment text ≡ tree_reading reach goal (trimmed text) raw
fragment_read reach fragment text raw goal lt e sides is =
    fragment_lexed reach fragment text raw lt e
    ∙ ap (λ b. if b then tree_reading reach (goal_of fragment) (trimmed text) raw else Err errors.NoTree) (sym sides)
    ∙ ap (λ g. tree_reading reach g (trimmed text) raw) (sym is)

-- what is answered for the text without the white space around it
pub fragment_answered : (reach : Reach) (fragment : Fragment) (text source : List ℕ) (read : Result Syntax SyntaxError) (r : Result Syntax SyntaxError)
    → length text < 2 ^ 32 → source ≡ trimmed text → fragment_reading_of reach fragment text ≡ read → Answers r read source
    → Answers r (fragment_reading_of reach fragment text) text
fragment_answered reach fragment text source read (Ok s) lt same is h = is ∙ h
fragment_answered reach fragment text source read (Err e) lt same is h = as_refused e read (fragment_reading_of reach fragment text) source text lt is h

-- a fault is told on
pub trimmed_told : (x : SyntaxError) (r : Result (Syntax × ℕ) SyntaxError) (read : Result Syntax SyntaxError) (text : List ℕ) → IsErr r
    → IsErrAnd r (λ e. e ≡ x) → Refuses x read text → AnswersTrimmed r read text
trimmed_told x (Ok answer) read text err is h = cc
trimmed_told x (Err e) read text err is h = subst (λ y. Refuses y read text) (sym is) h

-- ** At most one tree fits.

node_parts : (P : SyntaxKind → Forest → Type 0) (kind other : SyntaxKind) (kids below : Forest) → tree kind kids done ≡ tree other below done
    → P kind kids → P other below
node_parts P kind other kids below e h =
    let same_kind : kind ≡ other = cc in
    let same_kids : kids ≡ below = cc in
    subst (λ k. P k below) same_kind (subst (P kind) same_kids h)

pub one_tokens : (reach : Reach) (goal : Goal) (text : List ℕ) (raw : List RawToken) (a b : Syntax)
    → FitsTokens reach goal text raw a → FitsTokens reach goal text raw b → a ≡ b
one_tokens reach goal text raw a b (kind, kids, f, e, named) (other, below, g, d, other_named) =
    let ts = pieces text raw in
    let same = one_fits reach goal (solid_tokens raw) (tree kind kids done) (tree other below done)
    f g in
    e
    ∙ node_parts (λ k l. whole_tree kind kids (pieces text raw) ≡ whole_tree k l (pieces text raw)) kind other kids below same refl
    ∙ sym d

pub one_file : (reach : Reach) (text : List ℕ) (a b : Syntax) → FitsFileOf reach text a → FitsFileOf reach text b → a ≡ b
one_file reach text a b (raw, e, f) (raws, d, g) =
    let same : raws ≡ raw = cc (d, e) in
    one_tokens reach goals.File text raw a b f (subst (λ ts. FitsTokens reach goals.File text ts b) same g)

pub one_fragment : (reach : Reach) (fragment : Fragment) (text : List ℕ) (a b : Syntax) → FitsFragmentOf reach fragment text a → FitsFragmentOf reach fragment text b → a ≡ b
one_fragment reach fragment text a b (raw, e, out, f) (raws, d, outside, g) =
    let same : raws ≡ raw = cc (d, e) in
    one_tokens reach (goal_of fragment) (trimmed text) raw a b f (subst (λ ts. FitsTokens reach (goal_of fragment) (trimmed text) ts b) same g)

pub file_read_of : (reach : Reach) (text : List ℕ) (s : Syntax) → IsUtf8 text → file_reading_of reach text ≡ Ok s → IsReadOf reach s
file_read_of reach text s utf8 e =
    let spells = (file_sound_of reach text s utf8 e).spells in
    record { text = subst IsUtf8 (sym spells) utf8; reading = ap (file_reading_of reach) spells ∙ e }

pub file_answers_read_of : (reach : Reach) (text : List ℕ) (r : Result Syntax SyntaxError) → IsUtf8 text → Answers r (file_reading_of reach text) text
    → IfOk r (IsReadOf reach)
file_answers_read_of reach text (Ok s) utf8 h = file_read_of reach text s utf8 h
file_answers_read_of reach text (Err e) utf8 h = tt

-- ** Of the stated language.

pub file_sound : (text : List ℕ) (s : Syntax) → IsUtf8 text → file_reading text ≡ Ok s → IsTreeOfFile text s
unfolding file_reading
file_sound text s utf8 e = file_sound_of Stated text s utf8 e

pub file_texts : (text : List ℕ) (s : Syntax) → IsUtf8 text → file_reading text ≡ Ok s → All (λ token. IsUtf8 token.text) (tokens_of s)
unfolding file_reading
file_texts text s utf8 e = file_texts_of Stated text s utf8 e

pub file_read : (text : List ℕ) (s : Syntax) → IsUtf8 text → file_reading text ≡ Ok s → IsRead s
file_read text s utf8 e =
    let spells = (file_sound text s utf8 e).spells in
    record { text = subst IsUtf8 (sym spells) utf8; reading = ap file_reading spells ∙ e }

pub file_answers_read : (text : List ℕ) (r : Result Syntax SyntaxError) → IsUtf8 text → Answers r (file_reading text) text → IfOk r IsRead
file_answers_read text (Ok s) utf8 h = file_read text s utf8 h
file_answers_read text (Err e) utf8 h = tt

pub fragment_sound : (fragment : Fragment) (text : List ℕ) (s : Syntax) → IsUtf8 (trimmed text) → fragment_reading fragment text ≡ Ok s
    → IsTreeOfFragment fragment text s
unfolding fragment_reading
fragment_sound fragment text s utf8 e = fragment_sound_of Stated fragment text s utf8 e

pub read_stated : (s : Syntax) → IsRead s → IsReadOf Stated s
unfolding file_reading
read_stated s is = record { text = is.text; reading = is.reading }
