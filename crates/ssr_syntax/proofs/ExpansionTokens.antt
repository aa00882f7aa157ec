-- The tokens of what a macro call stands for: they tile the text that they spell, and their solid tokens are known by
-- their kinds, with white space behind those that aren't joint.
use Rattle.std.proofs.Common.{◌≡◌, ℕ, ◌+◌, ◌<◌, Bool, true, false, ◌&&◌, if◌then◌else◌, List, [], ◌∷◌, ◌++◌, length, map, drop, Some, None, Ok, Err, refl, sym, ◌∙◌, ap, subst, arith, append_assoc, length-append, reverse}
use Rattle.std.specs.Prelude.{Option, Result, string_bytes}
use Rattle.std.specs.Str.{IsUtf8, IsCharBoundary}
use Rattle.std.proofs.lemmas.List.{append-nil, map-append, reverse-append}
use Rattle.std.proofs.lemmas.Str.{IsUtf8-nil, IsUtf8-append, IsUtf8-string_bytes, IsCharBoundary-at_seam}
use Rattle.ssr_syntax_kinds.specs.declared.kinds.SyntaxKind.{SyntaxKind}
use Rattle.ssr_syntax_kinds.specs.declared.kinds.SyntaxKind.TheVariants as k
use Rattle.ssr_syntax_kinds.specs.declared.token_rows.TokenRow.{TokenRow}
use Rattle.ssr_syntax_lex.specs.declared.tokens.RawToken.{RawToken}
use Rattle.ssr_syntax_kinds.specs.Kinds.{is_trivia}
use Rattle.ssr_syntax_lex.specs.Tokens.{tokens as tokens_in, row_of, spell, Tiles, TilesFrom}
use Rattle.ssr_syntax_lex.proofs.Shared.{tokens_tile, tiles_spell}
use Rattle.ssr_syntax_forms.specs.declared.tokens.Token.{Token}
use Rattle.ssr_syntax.specs.declared.expansions.ExpToken.{ExpToken}
use Rattle.ssr_syntax_rows.specs.Solid.{joined, lengthened, is_joint, joined_two, joined_three, solid_token, solid_tokens, begins_solid}
use Rattle.ssr_syntax.specs.declared.syntax_error.SyntaxError.{SyntaxError}
use Rattle.ssr_syntax.specs.declared.syntax_error.SyntaxError.TheVariants as errors
use Rattle.ssr_syntax.specs.Expansions.{expansion_text, unless_refused, kind_of_one, lone_kind, raw_token, raw_from}
use Rattle.ssr_syntax_rows.specs.SolidKinds.{with_next, two_of, solid_kind, solid_kinds}
use Rattle.ssr_syntax.specs.Private.Reading.{IsCut}
use Rattle.ssr_syntax.specs.Private.Gathering.{behind, spaced, IsFront}
use Rattle.ssr_syntax.proofs.TextRows.{joined_mark, not_joined}

-- ** The kinds tell which tokens are joined.

with_next_same : (kind : SyntaxKind) (joint : Bool) (ts : List RawToken) → with_next kind (behind joint (spaced ts)) ≡ lengthened kind joint ts
with_next_same kind false ts = not_joined (joined k.WHITESPACE kind) k.WHITESPACE (joined_mark k.WHITESPACE kind) refl
with_next_same kind true [] = refl
with_next_same kind true (t ∷ ts) = refl

-- what two make is lengthened only if they are joint
three_same : (kind : SyntaxKind) (joint : Bool) (ts : List RawToken) (two : SyntaxKind) → lengthened kind joint ts ≡ Some two
    → with_next two (drop 1 (behind joint (spaced ts))) ≡ lengthened two (is_joint ts) (drop 1 ts)
three_same kind false ts two e = cc
three_same kind true [] two e = cc
three_same kind true (t ∷ ts) two e = with_next_same two t.joint ts

two_same : (kind : SyntaxKind) (joint : Bool) (ts : List RawToken) (o : Option SyntaxKind) → lengthened kind joint ts ≡ o
    → two_of kind (behind joint (spaced ts)) o ≡ joined_two kind ts o
two_same kind joint ts None e = refl
two_same kind joint ts (Some two) e = ap (joined_three kind two) (three_same kind joint ts two e)

token_same : (t : RawToken) (ts : List RawToken) → solid_kind t.kind (behind t.joint (spaced ts)) ≡ solid_token t ts
token_same t ts =
    ap (two_of t.kind (behind t.joint (spaced ts))) (with_next_same t.kind t.joint ts)
    ∙ two_same t.kind t.joint ts (lengthened t.kind t.joint ts) refl

behind_same : (joint : Bool) (kinds : List SyntaxKind) → solid_kinds (behind joint kinds) ≡ solid_kinds kinds
behind_same true kinds = refl
behind_same false kinds = refl

pub spaced_same : (raw : List RawToken) → solid_kinds (spaced raw) ≡ solid_tokens raw
spaced_same [] = refl
spaced_same (t ∷ ts) =
    ap (λ us. if is_trivia t.kind then us else solid_kind t.kind (behind t.joint (spaced ts)) ∷ us)
    (behind_same t.joint (spaced ts) ∙ spaced_same ts)
    ∙ ap (λ u. if is_trivia t.kind then solid_tokens ts else u ∷ solid_tokens ts) (token_same t ts)

behind-append : (joint : Bool) (xs ys : List SyntaxKind) → behind joint (xs ++ ys) ≡ behind joint xs ++ ys
behind-append true xs ys = refl
behind-append false xs ys = refl

spaced-append : (xs ys : List RawToken) → spaced (xs ++ ys) ≡ spaced xs ++ spaced ys
spaced-append [] ys = refl
spaced-append (t ∷ xs) ys =
    ap (λ l. t.kind ∷ behind t.joint l) (spaced-append xs ys)
    ∙ ap (λ l. t.kind ∷ l) (behind-append t.joint (spaced xs) (spaced ys))

-- ** One token more is put behind the others.

-- refused, or read with these in front
abbrev with_front : List RawToken → Result (List RawToken) SyntaxError → Result (List RawToken) SyntaxError
with_front raw r = unless_refused (λ more. Ok (raw ++ more)) r

appended : (raw : List RawToken) (t : RawToken) (r : Result (List RawToken) SyntaxError)
    → with_front raw (with_front (t ∷ []) r) ≡ with_front (raw ++ (t ∷ [])) r
appended raw t (Err e) = refl
appended raw t (Ok more) = ap Ok (sym (append_assoc raw (t ∷ []) more))

-- the raw tokens of tokens, of which the first one's kind is known
raw_next : (start : ℕ) (t : ExpToken) (ts : List ExpToken) (kind : SyntaxKind) → lone_kind (string_bytes t.text) ≡ Ok kind
    → raw_from start (t ∷ ts) ≡ with_front (raw_token start t kind ∷ []) (raw_from (start + length (string_bytes t.text)) ts)
raw_next start t ts kind e =
    ap (unless_refused (λ k. with_front (raw_token start t k ∷ []) (raw_from (start + length (string_bytes t.text)) ts))) e

pub front_more : (tokens rest others : List ExpToken) (t : ExpToken) (text : List ℕ) (rows : List TokenRow) (kinds : List SyntaxKind) (raw : List RawToken) (kind : SyntaxKind)
    (next : List ℕ) (next_rows : List TokenRow) (next_kinds : List SyntaxKind)
    → IsFront tokens rest text rows kinds raw → rest ≡ t ∷ others → lone_kind (string_bytes t.text) ≡ Ok kind
    → next ≡ text ++ string_bytes t.text → next_rows ≡ rows ++ record { kind = kind; start = length text } ∷ []
    → next_kinds ≡ kinds ++ kind ∷ behind t.joint []
    → (raws : List RawToken) × IsFront tokens others next next_rows next_kinds raws
front_more tokens rest others t text rows kinds raw kind next next_rows next_kinds front is lone e f g =
    let one : RawToken = raw_token (length text) t kind in
    let bytes : List ℕ = string_bytes t.text in
    let size : length text + length bytes ≡ length next = sym (length-append text bytes) ∙ ap length (sym e) in (
      raw ++ (one ∷ []),
      record {
        texts = ap (λ l. l ++ expansion_text others) e ∙ append_assoc text bytes (expansion_text others)
            ∙ ap (λ l. text ++ expansion_text l) (sym is) ∙ front.texts;
        rows_are = f ∙ ap (λ l. l ++ record { kind = kind; start = length text } ∷ []) front.rows_are ∙ sym (map-append row_of raw (one ∷ []));
        kinds_are = g ∙ ap (λ l. l ++ kind ∷ behind t.joint []) front.kinds_are ∙ sym (spaced-append raw (one ∷ []));
        going_on = front.going_on
            ∙ ap (λ l. with_front raw (raw_from (length text) l)) is
            ∙ ap (with_front raw) (raw_next (length text) t others kind lone)
            ∙ appended raw one (raw_from (length text + length bytes) others)
            ∙ ap (λ n. with_front (raw ++ (one ∷ [])) (raw_from n others)) size;
      },
    )

-- ** The raw tokens tile the text.

-- what the parts of tokens are
known_parts : (make : SyntaxKind → RawToken) (o : Result SyntaxKind SyntaxError) (more : Result (List RawToken) SyntaxError) (raw : List RawToken)
    → unless_refused (λ kind. unless_refused (λ ts. Ok (make kind ∷ ts)) more) o ≡ Ok raw
    → (kind : SyntaxKind) × (ts : List RawToken) × (o ≡ Ok kind) × (more ≡ Ok ts) × (make kind ∷ ts ≡ raw)
known_parts make (Err e) more raw h = cc
known_parts make (Ok kind) (Err e) raw h = cc
known_parts make (Ok kind) (Ok ts) raw h = (kind, ts, refl, refl, cc)

solid_one : (b : Bool) (kind other : SyntaxKind) → is_trivia kind ≡ b
    → ◌≡◌ {A = Result SyntaxKind SyntaxError} (if b then Err errors.NoTree else Ok kind) (Ok other) → is_trivia other ≡ false
solid_one true kind other e h = cc
solid_one false kind other e h = let same : kind ≡ other = cc in ap is_trivia (sym same) ∙ e

lone_parts : (o : Option (List RawToken)) (kind : SyntaxKind)
    → ◌≡◌ {A = Result SyntaxKind SyntaxError} (elim o [ None ↦ Err errors.Lex | Some raw ↦ kind_of_one raw ]) (Ok kind)
    → (t : RawToken) × (o ≡ Some (t ∷ [])) × (is_trivia kind ≡ false)
lone_parts None kind e = cc
lone_parts (Some []) kind e = cc
lone_parts (Some (t ∷ [])) kind e = (t, refl, solid_one (is_trivia t.kind) t.kind kind refl e)
lone_parts (Some (t ∷ (u ∷ ts))) kind e = cc

-- a token isn't empty
some_bytes : (text : List ℕ) (kind : SyntaxKind) → IsUtf8 text → lone_kind text ≡ Ok kind → 0 < length text
some_bytes text kind utf8 e =
    let one = lone_parts (tokens_in text) kind e in
    let tiles : Tiles text (one.0 ∷ []) = tokens_tile text (one.0 ∷ []) utf8 one.1 in
    omega (arith, tiles.1, tiles.3)

texts_utf8 : (ts : List ExpToken) → IsUtf8 (expansion_text ts)
texts_utf8 [] = IsUtf8-nil
texts_utf8 (t ∷ ts) = IsUtf8-append (string_bytes t.text) (expansion_text ts) (IsUtf8-string_bytes t.text) (texts_utf8 ts)

raw_tiles : (text front : List ℕ) (start : ℕ) (ts : List ExpToken) (raw : List RawToken) → text ≡ front ++ expansion_text ts → length front ≡ start
    → raw_from start ts ≡ Ok raw → TilesFrom text start raw
raw_tiles text front start [] raw e f g =
    let none : [] ≡ raw = cc in
    subst (TilesFrom text start) none (sym f ∙ ap length (sym (append-nil front)) ∙ ap length (sym e))
raw_tiles text front start (t ∷ ts) raw e f g =
    let bytes : List ℕ = string_bytes t.text in
    let p = known_parts (raw_token start t) (lone_kind bytes) (raw_from (start + length bytes) ts) raw g in
    let some : 0 < length bytes = some_bytes bytes p.0 (IsUtf8-string_bytes t.text) p.2 in
    let place : start < start + length bytes = omega arith in
    subst (TilesFrom text start) p.4 (
      refl,
      place,
      subst (IsCharBoundary text) f (IsCharBoundary-at_seam text front (expansion_text (t ∷ ts)) e (texts_utf8 (t ∷ ts))),
      raw_tiles text (front ++ bytes) (start + length bytes) ts p.1 (e ∙ sym (append_assoc front bytes (expansion_text ts)))
          (length-append front bytes ∙ ap (λ n. n + length bytes) f) p.3,
    )

pub expansion_tiles : (ts : List ExpToken) (raw : List RawToken) → raw_from 0 ts ≡ Ok raw → Tiles (expansion_text ts) raw
expansion_tiles ts raw e = raw_tiles (expansion_text ts) [] 0 ts raw refl refl e

pub expansion_spells : (ts : List ExpToken) (raw : List RawToken) → raw_from 0 ts ≡ Ok raw → spell (expansion_text ts) raw ≡ expansion_text ts
expansion_spells ts raw e = tiles_spell (expansion_text ts) raw (expansion_tiles ts raw e)

-- so the text is cut into them
pub expansion_cut : (ts : List ExpToken) (text : List ℕ) (rows : List TokenRow) (kinds : List SyntaxKind) (solid : List Token) (raw : List RawToken)
    → raw_from 0 ts ≡ Ok raw → text ≡ expansion_text ts → rows ≡ map row_of raw → kinds ≡ spaced raw → solid ≡ solid_kinds kinds
    → IsCut text rows solid raw
expansion_cut ts text rows kinds solid raw e is f g h = record {
  are = f;
  tiles = subst (λ l. Tiles l raw) (sym is) (expansion_tiles ts raw e);
  spelled = subst (λ l. spell l raw ≡ l) (sym is) (expansion_spells ts raw e);
  solid_are = h ∙ ap solid_kinds g ∙ spaced_same raw;
}

-- ** No white space and no comment is among them.

abbrev AllSolid : List RawToken → Type 0
AllSolid [] = Unit {0}
AllSolid (t ∷ ts) = (is_trivia t.kind ≡ false) × AllSolid ts

all_solid : (start : ℕ) (ts : List ExpToken) (raw : List RawToken) → raw_from start ts ≡ Ok raw → AllSolid raw
all_solid start [] raw e = let none : [] ≡ raw = cc in subst AllSolid none tt
all_solid start (t ∷ ts) raw e =
    let bytes : List ℕ = string_bytes t.text in
    let p = known_parts (raw_token start t) (lone_kind bytes) (raw_from (start + length bytes) ts) raw e in
    subst AllSolid p.4 ((lone_parts (tokens_in bytes) p.0 p.2).2, all_solid (start + length bytes) ts p.1 p.3)

solid-append : (xs ys : List RawToken) → AllSolid xs → AllSolid ys → AllSolid (xs ++ ys)
solid-append [] ys h k = k
solid-append (x ∷ xs) ys h k = (h.0, solid-append xs ys h.1 k)

solid-reverse : (xs : List RawToken) → AllSolid xs → AllSolid (reverse xs)
solid-reverse [] h = tt
solid-reverse (x ∷ xs) h =
    subst AllSolid (sym (reverse-append (x ∷ []) xs)) (solid-append (reverse xs) (x ∷ []) (solid-reverse xs h.1) (h.0, tt))

first_solid : (xs : List RawToken) → AllSolid xs → begins_solid xs ≡ true
first_solid [] h = refl
first_solid (x ∷ xs) h = simp h.0

pub expansion_outside : (ts : List ExpToken) (raw : List RawToken) → raw_from 0 ts ≡ Ok raw → (begins_solid raw && begins_solid (reverse raw)) ≡ true
expansion_outside ts raw e =
    let all : AllSolid raw = all_solid 0 ts raw e in
    ap (λ b. b && begins_solid (reverse raw)) (first_solid raw all) ∙ first_solid (reverse raw) (solid-reverse raw all)
