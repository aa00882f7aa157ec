-- The rows of a text's tokens say all of these: a token ends where the next one begins, and is joint just where that one
-- is punctuation.
use Rattle.std.proofs.Common.{◌≡◌, ℕ, suc, zero, ◌<◌, Bool, List, [], ◌∷◌, ◌++◌, length, map, max, drop, refl, sym, ap, ◌∙◌, arith, append_assoc, append-nil}
use Rattle.std.specs.Prelude.{Option, Some, None, slice_get, option_to_list}
use Rattle.std.specs.Option.{option_map}
use Rattle.std.specs.Str.{IsUtf8}
use Rattle.ssr_syntax_lex.specs.Tokens.{tokens, row_of, rows_in, TilesFrom}
use Rattle.ssr_syntax_lex.specs.Private.Steps.{token_before, tokens_of}
use Rattle.ssr_syntax_kinds.specs.declared.kinds.SyntaxKind.{SyntaxKind}
use Rattle.ssr_syntax_kinds.specs.declared.range.TextRange.{TextRange}
use Rattle.ssr_syntax_kinds.specs.declared.token_rows.TokenRow.{TokenRow}
use Rattle.ssr_syntax_lex.specs.declared.tokens.RawToken.{RawToken}
use Rattle.ssr_syntax_lex.proofs.Ranges.{TextRange-same}
use Rattle.ssr_syntax_lex.proofs.Tiling.{tokens_tile}
use Rattle.ssr_syntax_lex.proofs.Joints.{AreJoint, tokens_joint}

made : SyntaxKind → TextRange → Bool → RawToken
made kind range joint = record { kind = kind; range = range; joint = joint }

-- a token is known by its kind, its ends and whether it is joint
pub RawToken-same : (a b : RawToken) → a.kind ≡ b.kind → a.range.start ≡ b.range.start → a.range.end ≡ b.range.end → a.joint ≡ b.joint → a ≡ b
unfolding made
RawToken-same a b kinds starts ends joints =
    ap (λ k. made k a.range a.joint) kinds ∙ ap (λ r. made b.kind r a.joint) (TextRange-same a.range b.range starts ends) ∙ ap (made b.kind b.range) joints

reached : (start end next : ℕ) → start < end → next ≡ end → max start next ≡ end
reached start end next h e = omega arith

from_rows : (text : List ℕ) (start : ℕ) (ts : List RawToken) → TilesFrom text start ts → AreJoint ts → tokens_of (length text) (map row_of ts) ≡ ts
from_rows text start [] tiles joint = refl
from_rows text start (t ∷ []) tiles joint =
    let more : t.range.start < t.range.end = omega (arith, tiles.0, tiles.1) in
    ap (λ u. u ∷ []) (RawToken-same (token_before (length text) (row_of t) []) t refl refl (reached t.range.start t.range.end (length text) more (sym tiles.3)) (sym joint.0))
from_rows text start (t ∷ (u ∷ us)) tiles joint =
    let more : t.range.start < t.range.end = omega (arith, tiles.0, tiles.1) in
    ap (λ ts. token_before (length text) (row_of t) (map row_of (u ∷ us)) ∷ ts) (from_rows text t.range.end (u ∷ us) tiles.3 joint.1)
    ∙ ap (λ v. v ∷ (u ∷ us)) (RawToken-same (token_before (length text) (row_of t) (map row_of (u ∷ us))) t refl refl (reached t.range.start t.range.end u.range.start more tiles.3.0) (sym joint.0))

known : (o : Option (List RawToken)) (rows : List TokenRow) → option_map (map row_of) o ≡ Some rows → (ts : List RawToken) × (o ≡ Some ts) × (rows ≡ map row_of ts)
known None rows e = absurd (cc)
known (Some ts) rows e = (ts, refl, cc)

-- rows of a text are those of its tokens
pub rows_known : (text : List ℕ) (rows : List TokenRow) → rows_in text ≡ Some rows → (ts : List RawToken) × (tokens text ≡ Some ts) × (rows ≡ map row_of ts)
rows_known text rows e = known (tokens text) rows e

pub rows_lexed : (text : List ℕ) (rows : List TokenRow) → IsUtf8 text → rows_in text ≡ Some rows → tokens text ≡ Some (tokens_of (length text) rows)
rows_lexed text rows utf8 e =
    let known = rows_known text rows e in
    known.1 ∙ ap (λ (ts : List RawToken). let all : Option (List RawToken) = Some ts in all)
    (sym (ap (tokens_of (length text)) known.2 ∙ from_rows text 0 known.0 (tokens_tile text known.0 utf8 known.1) (tokens_joint text known.0 known.1)))

-- ** The walk over rows.

first_before : (total : ℕ) (row : TokenRow) (rows : List TokenRow) → token_before total row rows ≡ token_before total row (option_to_list (slice_get rows 0))
first_before total row [] = refl
first_before total row (next ∷ rows) = refl

-- the token of the row at a place, and those behind it
row_at : (total n : ℕ) (rows : List TokenRow) (row : TokenRow) → slice_get rows n ≡ Some row
    → tokens_of total (drop n rows) ≡ token_before total row (option_to_list (slice_get rows (suc n))) ∷ tokens_of total (drop (suc n) rows)
row_at total n [] row e = absurd (cc)
row_at total zero (first ∷ rows) row e =
    let same : first ≡ row = cc in
    ap (λ t. t ∷ tokens_of total rows) (first_before total first rows)
    ∙ ap (λ (r : TokenRow). token_before total r (option_to_list (slice_get rows 0)) ∷ tokens_of total rows) same
row_at total (suc n) (first ∷ rows) row e = row_at total n rows row e

-- one token more stands behind those that are there
pub one_token_more : (total n next : ℕ) (rows : List TokenRow) (row : TokenRow) (token : RawToken) (done more : List RawToken) (behind : Option TokenRow) → next ≡ suc n
    → Some row ≡ slice_get rows n → behind ≡ slice_get rows next → token ≡ token_before total row (option_to_list behind) → more ≡ done ++ token ∷ []
    → done ++ tokens_of total (drop n rows) ≡ tokens_of total rows → more ++ tokens_of total (drop next rows) ≡ tokens_of total rows
one_token_more total n next rows row token done more behind further here there made pushed goes =
    let one : token ≡ token_before total row (option_to_list (slice_get rows (suc n))) =
    made ∙ ap (λ o. token_before total row (option_to_list o)) (there ∙ ap (slice_get rows) further) in
    ap (λ ts. ts ++ tokens_of total (drop next rows)) pushed
    ∙ append_assoc done (token ∷ []) (tokens_of total (drop next rows))
    ∙ ap (λ m. done ++ (token ∷ tokens_of total (drop m rows))) further
    ∙ ap (λ t. done ++ (t ∷ tokens_of total (drop (suc n) rows))) one
    ∙ ap (λ ts. done ++ ts) (sym (row_at total n rows row (sym here)))
    ∙ goes

no_row : (total n : ℕ) (rows : List TokenRow) → slice_get rows n ≡ None → tokens_of total (drop n rows) ≡ []
no_row total zero [] e = refl
no_row total (suc n) [] e = refl
no_row total zero (first ∷ rows) e = absurd (cc)
no_row total (suc n) (first ∷ rows) e = no_row total n rows e

-- nothing is left behind the last row
pub all_tokens : (total n : ℕ) (rows : List TokenRow) (done : List RawToken) → slice_get rows n ≡ None → done ++ tokens_of total (drop n rows) ≡ tokens_of total rows
    → done ≡ tokens_of total rows
all_tokens total n rows done e goes = sym (append-nil done) ∙ ap (λ ts. done ++ ts) (sym (no_row total n rows e)) ∙ goes
