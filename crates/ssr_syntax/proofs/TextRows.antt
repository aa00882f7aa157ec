-- The rows of a text: its tokens are known by them, and its solid tokens by their kinds alone.
use Rattle.std.proofs.Common.{◌≡◌, ℕ, zero, suc, ◌+◌, ◌∷◌, ◌<◌, ◌≤◌, ◌^◌, Bool, true, false, ◌&&◌, if◌then◌else◌, List, [], length, map, drop, Some, None, refl, sym, ◌∙◌, ap, subst, arith, reverse}
use Rattle.std.specs.Prelude.{Option, Ok, IsCharBoundary, slice_get, slice_range}
use Rattle.std.specs.Str.{IsUtf8}
use Rattle.std.proofs.lemmas.List.{length-map}
use Rattle.ssr_syntax_kinds.specs.declared.reach.Reach.{Reach}
use Rattle.ssr_syntax_kinds.specs.declared.kinds.SyntaxKind.{SyntaxKind}
use Rattle.ssr_syntax_kinds.specs.declared.kinds.SyntaxKind.TheVariants as k
use Rattle.ssr_syntax_kinds.specs.declared.token_rows.TokenRow.{TokenRow}
use Rattle.ssr_syntax_lex.specs.declared.tokens.RawToken.{RawToken}
use Rattle.ssr_syntax_kinds.specs.Kinds.{same_kind, is_trivia}
use Rattle.ssr_syntax_lex.specs.Words.{is_punctuation}
use Rattle.ssr_syntax_lex.specs.Tokens.{tokens, row_of, rows_in, begins_with_punctuation, spell, token_text, Tiles, TilesFrom}
use Rattle.ssr_syntax_tree.proofs.Lists.{map-reverse}
use Rattle.ssr_syntax_kinds.proofs.Shared.{same_kind-equal}
use Rattle.ssr_syntax_lex.proofs.Shared.{tokens_tile, tiles_spell, AreJoint, tokens_joint, rows_known}
use Rattle.ssr_syntax_rows.specs.Solid.{twice, joined, lengthened, is_joint, joined_two, joined_three, solid_token, solid_tokens, begins_solid, pieces}
use Rattle.ssr_syntax_rows.specs.SolidKinds.{kinds_of, with_next, two_of, solid_kind, solid_kinds}
use Rattle.ssr_syntax.specs.Private.Reading.{kinds_begin_solid, AreTokensOf, IsCut, IsWritten, end_before}
use Rattle.ssr_syntax_tree.specs.Syntax as plain
use Rattle.ssr_syntax.specs.Reading.{reading, trimmed}
use Rattle.ssr_syntax_forms.specs.declared.tokens.Token.{Token}
use Rattle.ssr_syntax_forms.specs.declared.rows.Output.{Output}
use Rattle.ssr_syntax_forms.specs.Parser.{HasWritten, unwritten}
use Rattle.ssr_syntax_forms.specs.Trees.{Forest}
use Rattle.ssr_syntax_forms.specs.Written.{writes}
use Rattle.ssr_syntax_types.specs.declared.goals.Goal.{Goal}
use Rattle.ssr_syntax_rows.proofs.Shared.{IsUtf8-trim, boundary, tiles_count, tiles_within}

abbrev pub kinds : List RawToken → List SyntaxKind
kinds raw = kinds_of (map row_of raw)

-- ** Only punctuation is joined to what is in front of it.

abbrev pub joins_mark : Option SyntaxKind → SyntaxKind → Bool
joins_mark None next = true
joins_mark (Some both) next = is_punctuation next

any_mark : (o : Option SyntaxKind) (next : SyntaxKind) → is_punctuation next ≡ true → joins_mark o next ≡ true
any_mark None next e = refl
any_mark (Some both) next e = e

twice_mark : (kind : SyntaxKind) → joins_mark (twice kind) kind ≡ true
twice_mark k.COLON = refl
twice_mark k.DOT = refl
twice_mark k.AMP = refl
twice_mark k.PIPE = refl
twice_mark k.L_ANGLE = refl
twice_mark _ = refl

perhaps_mark : (b : Bool) (next kind : SyntaxKind) → same_kind kind next ≡ b → joins_mark (if b then twice kind else None) next ≡ true
perhaps_mark true next kind e = ap (λ other. joins_mark (twice kind) other) (sym (same_kind-equal kind next e)) ∙ twice_mark kind
perhaps_mark false next kind e = refl

pub joined_mark : (next kind : SyntaxKind) → joins_mark (joined next kind) next ≡ true
joined_mark k.EQ kind = any_mark (joined k.EQ kind) k.EQ refl
joined_mark k.R_ANGLE kind = any_mark (joined k.R_ANGLE kind) k.R_ANGLE refl
joined_mark next kind = perhaps_mark (same_kind kind next) next kind refl

pub not_joined : (o : Option SyntaxKind) (next : SyntaxKind) → joins_mark o next ≡ true → is_punctuation next ≡ false → o ≡ None
not_joined None next h e = refl
not_joined (Some both) next h e = absurd (cc (h, e))

-- ** So the kinds tell which tokens are joined.

with_next_same : (kind : SyntaxKind) (joint : Bool) (ts : List RawToken) → joint ≡ begins_with_punctuation ts → with_next kind (kinds ts) ≡ lengthened kind joint ts
with_next_same kind true [] e = absurd (cc)
with_next_same kind false [] e = refl
with_next_same kind true (t ∷ ts) e = refl
with_next_same kind false (t ∷ ts) e = not_joined (joined t.kind kind) t.kind (joined_mark t.kind kind) (sym e)

joint_first : (ts : List RawToken) → AreJoint ts → is_joint ts ≡ begins_with_punctuation (drop 1 ts)
joint_first [] joint = refl
joint_first (t ∷ ts) joint = joint.0

kinds-drop : (ts : List RawToken) → drop 1 (kinds ts) ≡ kinds (drop 1 ts)
kinds-drop [] = refl
kinds-drop (t ∷ ts) = refl

two_same : (kind : SyntaxKind) (ts : List RawToken) (o : Option SyntaxKind) → AreJoint ts → two_of kind (kinds ts) o ≡ joined_two kind ts o
two_same kind ts None joint = refl
two_same kind ts (Some two) joint =
    ap (joined_three kind two)
    (ap (with_next two) (kinds-drop ts) ∙ with_next_same two (is_joint ts) (drop 1 ts) (joint_first ts joint))

token_same : (t : RawToken) (ts : List RawToken) → AreJoint (t ∷ ts) → solid_kind t.kind (kinds ts) ≡ solid_token t ts
token_same t ts joint =
    ap (two_of t.kind (kinds ts)) (with_next_same t.kind t.joint ts joint.0)
    ∙ two_same t.kind ts (lengthened t.kind t.joint ts) joint.1

pub solid_same : (raw : List RawToken) → AreJoint raw → solid_kinds (kinds raw) ≡ solid_tokens raw
solid_same [] joint = refl
solid_same (t ∷ ts) joint =
    ap (λ us. if is_trivia t.kind then us else solid_kind t.kind (kinds ts) ∷ us) (solid_same ts joint.1)
    ∙ ap (λ u. if is_trivia t.kind then solid_tokens ts else u ∷ solid_tokens ts) (token_same t ts joint)

begins_same : (raw : List RawToken) → kinds_begin_solid (kinds raw) ≡ begins_solid raw
begins_same [] = refl
begins_same (t ∷ ts) = refl

kinds-reverse : (raw : List RawToken) → reverse (kinds raw) ≡ kinds (reverse raw)
kinds-reverse raw = sym (ap (λ rows. kinds_of rows) (map-reverse row_of raw) ∙ map-reverse (λ row. row.kind) (map row_of raw))

pub outside_same : (raw : List RawToken) (given : List SyntaxKind) → given ≡ kinds raw
    → (kinds_begin_solid given && kinds_begin_solid (reverse given)) ≡ (begins_solid raw && begins_solid (reverse raw))
outside_same raw given e =
    ap (λ ks. kinds_begin_solid ks && kinds_begin_solid (reverse ks)) e
    ∙ ap (λ b. b && kinds_begin_solid (reverse (kinds raw))) (begins_same raw)
    ∙ ap (λ ks. begins_solid raw && kinds_begin_solid ks) (kinds-reverse raw)
    ∙ ap (λ b. begins_solid raw && b) (begins_same (reverse raw))

-- ** The rows of a text.

-- the tokens of a text, of which these are the rows
pub record AreRowsOf (text : List ℕ) (rows : List TokenRow) (raw : List RawToken) : Type 0 where
  pub lexed : tokens text ≡ Some raw
  pub are : rows ≡ map row_of raw
  pub tiles : Tiles text raw
  pub spelled : spell text raw ≡ text
  pub solid : solid_kinds (kinds_of rows) ≡ solid_tokens raw

are_rows : (text : List ℕ) (rows : List TokenRow) (raw : List RawToken) → IsUtf8 text → tokens text ≡ Some raw → rows ≡ map row_of raw → AreRowsOf text rows raw
are_rows text rows raw utf8 e are =
    let tiles : Tiles text raw = tokens_tile text raw utf8 e in
    record {
      lexed = e;
      are = are;
      tiles = tiles;
      spelled = tiles_spell text raw tiles;
      solid = ap (λ rows. solid_kinds (kinds_of rows)) are ∙ solid_same raw (tokens_joint text raw e);
    }

pub known_rows : (text : List ℕ) (rows : List TokenRow) → IsUtf8 text → rows_in text ≡ Some rows → (raw : List RawToken) × AreRowsOf text rows raw
known_rows text rows utf8 e = let known = rows_known text rows e in (known.0, are_rows text rows known.0 utf8 known.1 known.2)

-- a text has one list of tokens
pub these_rows : (text : List ℕ) (rows : List TokenRow) (raw : List RawToken) → IsUtf8 text → rows_in text ≡ Some rows → tokens text ≡ Some raw → AreRowsOf text rows raw
these_rows text rows raw utf8 e lexed =
    let known = rows_known text rows e in
    let same : known.0 ≡ raw = cc (known.1, lexed) in
    are_rows text rows raw utf8 lexed (known.2 ∙ ap (map row_of) same)

-- so it is cut into these
pub cut_of_rows : (text : List ℕ) (rows : List TokenRow) (solid : List Token) (raw : List RawToken) → AreRowsOf text rows raw
    → solid ≡ solid_kinds (kinds_of rows) → IsCut text rows solid raw
cut_of_rows text rows solid raw are e = record { are = are.are; tiles = are.tiles; spelled = are.spelled; solid_are = e ∙ are.solid }

-- 32 bits count the rows of a short text
pub rows_count : (text : List ℕ) (rows : List TokenRow) (raw : List RawToken) → rows ≡ map row_of raw → Tiles text raw → length rows ≤ length text
rows_count text rows raw are tiles = omega (arith, tiles_count text 0 raw tiles, ap length are, length-map raw row_of)

-- what is written of tokens, beside the rows of the text
pub written_of_cut : (reach : Reach) (goal : Goal) (text : List ℕ) (rows : List TokenRow) (solid given : List Token) (raw : List RawToken) (z : Forest) (out : Output)
    (kinds : List SyntaxKind) → IsCut text rows solid raw → given ≡ solid → reading reach goal given ≡ Ok z → kinds ≡ map (λ row. row.kind) rows
    → HasWritten out (writes z (unwritten kinds)) → IsWritten reach goal text rows out raw
written_of_cut reach goal text rows solid given raw z out kinds cut same read are holds =
    record {
      are = cut.are;
      tiles = cut.tiles;
      spelled = cut.spelled;
      reads = (z, ap (reading reach goal) (sym (same ∙ cut.solid_are)) ∙ read, subst (λ ks. HasWritten out (writes z (unwritten ks))) are holds);
    }

-- a text that is the same is cut the same
pub cut_copied : (text source : List ℕ) (rows copy : List TokenRow) (solid : List Token) (raw : List RawToken) → IsCut text rows solid raw
    → source ≡ text → copy ≡ rows → IsCut source copy solid raw
cut_copied text source rows copy solid raw cut same copied =
    subst (λ t. IsCut t copy solid raw) (sym same) (subst (λ ts. IsCut text ts solid raw) (sym copied) cut)

-- the tokens of a text that is kept with them
pub record AreKept (text : List ℕ) (rows : List TokenRow) (solid : List Token) (raw : List RawToken) : Type 0 where
  pub lexed : tokens (trimmed text) ≡ Some raw
  pub cut : IsCut (trimmed text) rows solid raw
  pub outside : (given : List SyntaxKind) → given ≡ kinds_of rows
      → (kinds_begin_solid given && kinds_begin_solid (reverse given)) ≡ (begins_solid raw && begins_solid (reverse raw))

pub kept_tokens : (text : List ℕ) (rows : List TokenRow) (solid : List Token) → IsUtf8 text → AreTokensOf text rows solid
    → (raw : List RawToken) × AreKept text rows solid raw
kept_tokens text rows solid utf8 are =
    let known = known_rows (trimmed text) rows (IsUtf8-trim text utf8) are.lexed in (
      known.0,
      record {
        lexed = known.1.lexed;
        cut = cut_of_rows (trimmed text) rows solid known.0 known.1 are.solid_are;
        outside = λ given is. outside_same known.0 given (is ∙ ap kinds_of known.1.are);
      },
    )

-- ** The token of a number.

-- a row's token ends here, and is this one
pub record IsTokenAt (text : List ℕ) (row : TokenRow) (end : ℕ) (token : Option plain.Token) : Type 0 where
  pub starts : IsCharBoundary text row.start
  pub ends : IsCharBoundary text end
  pub ordered : row.start ≤ end
  pub within : end ≤ length text
  pub is : token ≡ Some (record { kind = row.kind; text = slice_range text row.start end })

next_start : (text : List ℕ) (start : ℕ) (raw : List RawToken) → TilesFrom text start raw → end_before (length text) (slice_get (map row_of raw) 0) ≡ start
next_start text start [] tiles = sym tiles
next_start text start (t ∷ ts) tiles = tiles.0

pub token_at : (text : List ℕ) (start : ℕ) (raw : List RawToken) (number : ℕ) (row : TokenRow) → TilesFrom text start raw
    → slice_get (map row_of raw) number ≡ Some row
    → IsTokenAt text row (end_before (length text) (slice_get (map row_of raw) (number + 1))) (slice_get (pieces text raw) number)
token_at text start [] number row tiles is = cc
token_at text start (t ∷ ts) zero row tiles is =
    let same : row_of t ≡ row = cc in
    let end : end_before (length text) (slice_get (map row_of ts) 0) ≡ t.range.end = next_start text t.range.end ts tiles.3 in
    let token : Option plain.Token = Some (record { kind = t.kind; text = token_text text t }) in
    subst (λ r. IsTokenAt text r (end_before (length text) (slice_get (map row_of ts) 0)) token) same
    (subst (λ n. IsTokenAt text (row_of t) n token) (sym end)
    (record {
      starts = subst (IsCharBoundary text) (sym tiles.0) tiles.2;
      ends = boundary text t.range.end ts tiles.3;
      ordered = omega (arith, tiles.0, tiles.1);
      within = tiles_within text t.range.end ts tiles.3;
      is = refl;
    }))
token_at text start (t ∷ ts) (suc n) row tiles is =
    let same : suc n + 1 ≡ suc (n + 1) = omega arith in
    subst (λ m. IsTokenAt text row (end_before (length text) (slice_get (map row_of (t ∷ ts)) m)) (slice_get (pieces text ts) n)) (sym same)
    (token_at text t.range.end ts n row tiles.3 is)

-- the token of a row of a text that is kept with its tokens
pub kept_token : (text : List ℕ) (rows : List TokenRow) (solid : List Token) (number : ℕ) (row : TokenRow) → IsUtf8 text → AreTokensOf text rows solid
    → slice_get rows number ≡ Some row
    → (raw : List RawToken) × (tokens (trimmed text) ≡ Some raw)
    × IsTokenAt (trimmed text) row (end_before (length (trimmed text)) (slice_get rows (number + 1))) (slice_get (pieces (trimmed text) raw) number)
kept_token text rows solid number row utf8 are is =
    let kept = kept_tokens text rows solid utf8 are in
    let raw : List RawToken = kept.0 in
    let same : rows ≡ map row_of raw = kept.1.cut.are in (
      raw,
      kept.1.lexed,
      subst (λ rs. IsTokenAt (trimmed text) row (end_before (length (trimmed text)) (slice_get rs (number + 1))) (slice_get (pieces (trimmed text) raw) number)) (sym same)
          (token_at (trimmed text) 0 raw number row kept.1.cut.tiles (subst (λ rs. slice_get rs number ≡ Some row) same is)),
    )

-- there are no more of them than 32 bits count
pub kept_count : (text : List ℕ) (rows : List TokenRow) (solid : List Token) → IsUtf8 text → AreTokensOf text rows solid → length rows < 2 ^ 32
kept_count text rows solid utf8 are =
    let kept = kept_tokens text rows solid utf8 are in
    omega (arith, rows_count (trimmed text) rows kept.0 kept.1.cut.are kept.1.cut.tiles, are.short)
