-- The solid tokens of two texts side by side at a bracket, a comma or `;` are those of both, and so are their pieces.
use Rattle.std.proofs.Common.{◌≡◌, ℕ, ◌+◌, ◌-◌, ◌≤◌, Bool, true, false, ◌||◌, if◌then◌else◌, List, [], ◌∷◌, ◌++◌, length, map, take, drop, Some, None, refl, sym, ap, ◌∙◌, arith}
use Rattle.std.specs.Prelude.{Option}
use Rattle.std.specs.Str.{IsUtf8}
use Rattle.std.proofs.lemmas.List.{drop-append-le, take-append-le, length-drop}
use Rattle.std.proofs.Math.Seq.{drop-append-add}
use Rattle.ssr_syntax_kinds.specs.declared.kinds.SyntaxKind.{SyntaxKind}
use Rattle.ssr_syntax_kinds.specs.declared.kinds.SyntaxKind.TheVariants as k
use Rattle.ssr_syntax_kinds.specs.Kinds.{same_kind, is_trivia}
use Rattle.ssr_syntax_lex.specs.declared.tokens.RawToken.{RawToken}
use Rattle.ssr_syntax_lex.specs.Tokens.{begins_with_punctuation, in_front, tokens, token_text, TilesFrom}
use Rattle.ssr_syntax_lex.specs.Seams.{moved, all_in_front, side_by_side, is_seam_kind, begins_at_seam, ends_at_seam}
use Rattle.ssr_syntax_lex.proofs.Shared.{tokens_tile, AreJoint, tokens_joint}
use Rattle.ssr_syntax_tree.specs.Syntax as plain
use Rattle.ssr_syntax_forms.specs.declared.tokens.Token.{Token}
use Rattle.ssr_syntax_rows.specs.Solid.{with_eq, with_r_angle, twice, joined, lengthened, is_joint, joined_two, joined_three, solid_token, solid_tokens, pieces}
use Rattle.ssr_syntax_rows.specs.Private.SolidKinds.{ends_joined}
use Rattle.ssr_syntax_rows.proofs.SolidLaws.{never_joined}
use Rattle.ssr_syntax_rows.proofs.Tiles.{tiles_within}

-- ** No joined token has a bracket, a comma or `;` as a part.
seam_parts : (kind : SyntaxKind) → is_seam_kind kind ≡ true → (ends_joined kind ≡ false) × (with_eq kind ≡ None) × (with_r_angle kind ≡ None) × (twice kind ≡ None)
seam_parts k.L_PAREN e = (refl, refl, refl, refl)
seam_parts k.R_PAREN e = (refl, refl, refl, refl)
seam_parts k.L_BRACK e = (refl, refl, refl, refl)
seam_parts k.R_BRACK e = (refl, refl, refl, refl)
seam_parts k.L_CURLY e = (refl, refl, refl, refl)
seam_parts k.R_CURLY e = (refl, refl, refl, refl)
seam_parts k.COMMA e = (refl, refl, refl, refl)
seam_parts k.SEMICOLON e = (refl, refl, refl, refl)
seam_parts _ e = absurd (cc)

neither : (x : Bool) (o : Option SyntaxKind) → o ≡ None → (if x then o else None) ≡ None
neither true o none = none
neither false o none = refl

-- none begins with one
joined_first : (next kind : SyntaxKind) → is_seam_kind kind ≡ true → joined next kind ≡ None
joined_first k.EQ kind seam = (seam_parts kind seam).1
joined_first k.R_ANGLE kind seam = (seam_parts kind seam).2
joined_first next kind seam = neither (same_kind kind next) (twice kind) (seam_parts kind seam).3

-- none goes on with one
joined_next : (next kind : SyntaxKind) → is_seam_kind next ≡ true → joined next kind ≡ None
joined_next next kind seam = never_joined next kind (seam_parts next seam).0

-- ** What isn't joined across two lists.
lone : (kind : SyntaxKind) (joint : Bool) → lengthened kind joint [] ≡ None
lone kind true = refl
lone kind false = refl

-- neither the last token of one list is joined with those behind it, nor is what it is the end of
abbrev Apart : SyntaxKind → List RawToken → Type 0
Apart last us =
    ((joint : Bool) → lengthened last joint us ≡ None)
    × ((kind two : SyntaxKind) (joint : Bool) → joined last kind ≡ Some two → lengthened two joint us ≡ None)

abbrev LastApart : List RawToken → List RawToken → Type 0
LastApart [] us = Unit {0}
LastApart (t ∷ []) us = Apart t.kind us
LastApart (t ∷ u ∷ ts) us = LastApart (u ∷ ts) us

apart_before : (us : List RawToken) (kind : SyntaxKind) (joint : Bool) → begins_at_seam us ≡ true → lengthened kind joint us ≡ None
apart_before [] kind joint seam = absurd (cc)
apart_before (u ∷ us) kind true seam = joined_next u.kind kind seam
apart_before (u ∷ us) kind false seam = refl

apart_behind : (us : List RawToken) (kind : SyntaxKind) (joint : Bool) → is_seam_kind kind ≡ true → lengthened kind joint us ≡ None
apart_behind [] kind joint seam = lone kind joint
apart_behind (u ∷ us) kind true seam = joined_first u.kind kind seam
apart_behind (u ∷ us) kind false seam = refl

apart_last : (last : SyntaxKind) (us : List RawToken) (x : Bool) → is_seam_kind last ≡ x → (x || begins_at_seam us) ≡ true → Apart last us
apart_last last us true seam e = (
  λ joint. apart_behind us last joint seam,
  λ kind two joint both. let clash = sym (joined_next last kind seam) ∙ both in absurd (cc),
)
apart_last last us false seam e = (λ joint. apart_before us last joint e, λ kind two joint both. apart_before us two joint e)

last_apart : (ts us : List RawToken) → (ends_at_seam ts || begins_at_seam us) ≡ true → LastApart ts us
last_apart [] us e = tt
last_apart (t ∷ []) us e = apart_last t.kind us (is_seam_kind t.kind) refl e
last_apart (t ∷ u ∷ ts) us e = last_apart (u ∷ ts) us e

-- ** Solid tokens in front of others.
next_same : (kind : SyntaxKind) (joint : Bool) (u : RawToken) (ts us : List RawToken) → lengthened kind joint (in_front u.kind u.range ts) ≡ lengthened kind joint (u ∷ us)
next_same kind true u ts us = refl
next_same kind false u ts us = refl

first_same : (t : RawToken) (ts us : List RawToken) → AreJoint (t ∷ ts) → LastApart (t ∷ ts) us
    → lengthened t.kind (begins_with_punctuation (all_in_front ts us)) (all_in_front ts us) ≡ lengthened t.kind t.joint ts
first_same t [] us joint apart = apart.0 (begins_with_punctuation us) ∙ sym (lone t.kind t.joint)
first_same t (u ∷ ts) us joint apart =
    ap (λ j. lengthened t.kind j (all_in_front (u ∷ ts) us)) (sym joint.0) ∙ next_same t.kind t.joint u (all_in_front ts us) ts

two_same : (kind two : SyntaxKind) (u : RawToken) (ts us : List RawToken) → AreJoint (u ∷ ts) → LastApart (u ∷ ts) us → joined u.kind kind ≡ Some two
    → lengthened two (begins_with_punctuation (all_in_front ts us)) (all_in_front ts us) ≡ lengthened two u.joint ts
two_same kind two u [] us joint apart both = apart.1 kind two (begins_with_punctuation us) both ∙ sym (lone two u.joint)
two_same kind two u (v ∷ ts) us joint apart both =
    ap (λ j. lengthened two j (all_in_front (v ∷ ts) us)) (sym joint.0) ∙ next_same two u.joint v (all_in_front ts us) ts

is_joined : (kind two : SyntaxKind) (joint : Bool) (u : RawToken) (ts : List RawToken) → lengthened kind joint (u ∷ ts) ≡ Some two → joined u.kind kind ≡ Some two
is_joined kind two true u ts e = e
is_joined kind two false u ts e = absurd (cc)

joined_same : (t u : RawToken) (ts us : List RawToken) (o : Option SyntaxKind) → AreJoint (u ∷ ts) → LastApart (u ∷ ts) us → lengthened t.kind t.joint (u ∷ ts) ≡ o
    → joined_two t.kind (all_in_front (u ∷ ts) us) o ≡ joined_two t.kind (u ∷ ts) o
joined_same t u ts us None joint apart e = refl
joined_same t u ts us (Some two) joint apart e =
    ap (joined_three t.kind two) (two_same t.kind two u ts us joint apart (is_joined t.kind two t.joint u ts e))

token_same : (t : RawToken) (ts us : List RawToken) → AreJoint (t ∷ ts) → LastApart (t ∷ ts) us
    → joined_two t.kind (all_in_front ts us) (lengthened t.kind (begins_with_punctuation (all_in_front ts us)) (all_in_front ts us)) ≡ solid_token t ts
token_same t [] us joint apart =
    ap (joined_two t.kind us) (apart.0 (begins_with_punctuation us)) ∙ ap (joined_two t.kind []) (sym (lone t.kind t.joint))
token_same t (u ∷ ts) us joint apart =
    ap (joined_two t.kind (all_in_front (u ∷ ts) us)) (first_same t (u ∷ ts) us joint apart)
    ∙ joined_same t u ts us (lengthened t.kind t.joint (u ∷ ts)) joint.1 apart refl

solid_step : (t : RawToken) (ts us : List RawToken) → AreJoint (t ∷ ts) → LastApart (t ∷ ts) us → solid_tokens (all_in_front ts us) ≡ solid_tokens ts ++ solid_tokens us
    → solid_tokens (all_in_front (t ∷ ts) us) ≡ solid_tokens (t ∷ ts) ++ solid_tokens us
solid_step t ts us joint apart rest =
    elim (is_trivia t.kind) as (λ x. (if x then solid_tokens (all_in_front ts us)
    else joined_two t.kind (all_in_front ts us) (lengthened t.kind (begins_with_punctuation (all_in_front ts us)) (all_in_front ts us)) ∷ solid_tokens (all_in_front ts us))
    ≡ (if x then solid_tokens ts else solid_token t ts ∷ solid_tokens ts) ++ solid_tokens us) [
      | true ↦ rest
      | false ↦ ap (λ (u : Token). u ∷ solid_tokens (all_in_front ts us)) (token_same t ts us joint apart) ∙ ap (λ (rest : List Token). solid_token t ts ∷ rest) rest
    ]

solid_in_front : (ts us : List RawToken) → AreJoint ts → LastApart ts us → solid_tokens (all_in_front ts us) ≡ solid_tokens ts ++ solid_tokens us
solid_in_front [] us joint apart = refl
solid_in_front (t ∷ []) us joint apart = solid_step t [] us joint apart refl
solid_in_front (t ∷ u ∷ ts) us joint apart = solid_step t (u ∷ ts) us joint apart (solid_in_front (u ∷ ts) us joint.1 apart)

-- ** Solid tokens further on.
lengthened_moved : (n : ℕ) (kind : SyntaxKind) (joint : Bool) (ts : List RawToken) → lengthened kind joint (map (moved n) ts) ≡ lengthened kind joint ts
lengthened_moved n kind true [] = refl
lengthened_moved n kind false [] = refl
lengthened_moved n kind true (t ∷ ts) = refl
lengthened_moved n kind false (t ∷ ts) = refl

two_moved : (n : ℕ) (two : SyntaxKind) (ts : List RawToken) → lengthened two (is_joint (map (moved n) ts)) (drop 1 (map (moved n) ts)) ≡ lengthened two (is_joint ts) (drop 1 ts)
two_moved n two [] = refl
two_moved n two (t ∷ ts) = lengthened_moved n two t.joint ts

joined_moved : (n : ℕ) (kind : SyntaxKind) (ts : List RawToken) (o : Option SyntaxKind) → joined_two kind (map (moved n) ts) o ≡ joined_two kind ts o
joined_moved n kind ts None = refl
joined_moved n kind ts (Some two) = ap (joined_three kind two) (two_moved n two ts)

token_moved : (n : ℕ) (t : RawToken) (ts : List RawToken) → solid_token (moved n t) (map (moved n) ts) ≡ solid_token t ts
token_moved n t ts =
    ap (joined_two t.kind (map (moved n) ts)) (lengthened_moved n t.kind t.joint ts) ∙ joined_moved n t.kind ts (lengthened t.kind t.joint ts)

solid_moved : (n : ℕ) (ts : List RawToken) → solid_tokens (map (moved n) ts) ≡ solid_tokens ts
solid_moved n [] = refl
solid_moved n (t ∷ ts) =
    elim (is_trivia t.kind) as (λ x. (if x then solid_tokens (map (moved n) ts) else solid_token (moved n t) (map (moved n) ts) ∷ solid_tokens (map (moved n) ts))
    ≡ (if x then solid_tokens ts else solid_token t ts ∷ solid_tokens ts)) [
      | true ↦ solid_moved n ts
      | false ↦ ap (λ (u : Token). u ∷ solid_tokens (map (moved n) ts)) (token_moved n t ts) ∙ ap (λ (rest : List Token). solid_token t ts ∷ rest) (solid_moved n ts)
    ]

-- the solid tokens of texts side by side
pub solid_seam : (a : List ℕ) (n : ℕ) (ts us : List RawToken) → tokens a ≡ Some ts → (ends_at_seam ts || begins_at_seam us) ≡ true
    → solid_tokens (side_by_side n ts us) ≡ solid_tokens ts ++ solid_tokens us
solid_seam a n ts us e seam =
    solid_in_front ts (map (moved n) us) (tokens_joint a ts e) (last_apart ts (map (moved n) us) (ap (λ x. ends_at_seam ts || x) (begins_moved us) ∙ seam))
    ∙ ap (λ (rest : List Token). solid_tokens ts ++ rest) (solid_moved n us)
  where
    begins_moved : (vs : List RawToken) → begins_at_seam (map (moved n) vs) ≡ begins_at_seam vs
    begins_moved [] = refl
    begins_moved (v ∷ vs) = refl

-- ** Pieces.
text_in_front : (a b : List ℕ) (t : RawToken) → t.range.end ≤ length a → token_text (a ++ b) t ≡ token_text a t
text_in_front a b t inside =
    let ordered = t.range.ordered in
    let fits : t.range.end - t.range.start ≤ length (drop t.range.start a) = omega (arith, inside, length-drop t.range.start a) in
    ap (take (t.range.end - t.range.start)) (drop-append-le t.range.start a b (omega (arith, ordered, inside)))
    ∙ take-append-le (t.range.end - t.range.start) (drop t.range.start a) b fits

text_behind : (a b : List ℕ) (t : RawToken) → token_text (a ++ b) (moved (length a) t) ≡ token_text b t
text_behind a b t =
    let count : (length a + t.range.end) - (length a + t.range.start) ≡ t.range.end - t.range.start = omega arith in
    ap (λ n. take n (drop (length a + t.range.start) (a ++ b))) count
    ∙ ap (take (t.range.end - t.range.start)) (drop-append-add a b t.range.start)

piece : SyntaxKind → List ℕ → plain.Token
piece kind text = record { kind = kind; text = text }

pieces_in_front : (a b : List ℕ) (start : ℕ) (ts us : List RawToken) → TilesFrom a start ts → pieces (a ++ b) (all_in_front ts us) ≡ pieces a ts ++ pieces (a ++ b) us
unfolding piece
pieces_in_front a b start [] us tiles = refl
pieces_in_front a b start (t ∷ ts) us tiles =
    ap (λ (text : List ℕ). piece t.kind text ∷ pieces (a ++ b) (all_in_front ts us)) (text_in_front a b t (tiles_within a t.range.end ts tiles.3))
    ∙ ap (λ (rest : List plain.Token). piece t.kind (token_text a t) ∷ rest) (pieces_in_front a b t.range.end ts us tiles.3)

pieces_behind : (a b : List ℕ) (us : List RawToken) → pieces (a ++ b) (map (moved (length a)) us) ≡ pieces b us
unfolding piece
pieces_behind a b [] = refl
pieces_behind a b (u ∷ us) =
    ap (λ (text : List ℕ). piece u.kind text ∷ pieces (a ++ b) (map (moved (length a)) us)) (text_behind a b u)
    ∙ ap (λ (rest : List plain.Token). piece u.kind (token_text b u) ∷ rest) (pieces_behind a b us)

-- the pieces of texts side by side
pub pieces_seam : (a b : List ℕ) (ts us : List RawToken) → IsUtf8 a → tokens a ≡ Some ts → pieces (a ++ b) (side_by_side (length a) ts us) ≡ pieces a ts ++ pieces b us
pieces_seam a b ts us utf8 e =
    pieces_in_front a b 0 ts (map (moved (length a)) us) (tokens_tile a ts utf8 e) ∙ ap (λ (rest : List plain.Token). pieces a ts ++ rest) (pieces_behind a b us)
