-- A long text begins and ends as the short one does, if no inside stands first or last.
use Rattle.std.proofs.Common.{◌≡◌, ℕ, ◌+◌, ◌<◌, true, false, not, ◌&&◌, if◌then◌else◌, List, [], ◌∷◌, ◌++◌, length, Some, refl, sym, ap, ◌∙◌, arith}
use Rattle.std.specs.Prelude.{reverse}
use Rattle.std.proofs.lemmas.List.{length-append, reverse-append, length-reverse}
use Rattle.std.proofs.lemmas.Bool.{and_from}
use Rattle.ssr_syntax_kinds.specs.Kinds.{is_trivia}
use Rattle.ssr_syntax_kinds.specs.declared.kinds.SyntaxKind.{SyntaxKind}
use Rattle.ssr_syntax_kinds.specs.declared.kinds.SyntaxKind.TheVariants as k
use Rattle.ssr_syntax_lex.specs.Seams.{is_seam_kind, begins_at_seam, ends_at_seam}
use Rattle.ssr_syntax_lex.specs.Tokens.{tokens, token_text}
use Rattle.ssr_syntax_lex.specs.declared.tokens.RawToken.{RawToken}
use Rattle.ssr_syntax_lex.proofs.Shared.{seam_begins, seam_ends}
use Rattle.ssr_syntax_tree.specs.Syntax as plain
use Rattle.ssr_syntax_tree.specs.Syntax.{begins_with_trivia}
use Rattle.ssr_syntax_tree.proofs.Lists.{map-reverse}
use Rattle.ssr_syntax_rows.specs.Solid.{begins_solid, solid_token, solid_tokens, pieces}
use Rattle.ssr_syntax_rows.proofs.Shared.{solid_sides}
use Rattle.ssr_syntax_places.specs.LongTexts.{AreInsides}
use Rattle.ssr_syntax_places.specs.Core.{Holes}
use Rattle.ssr_syntax_kinds.specs.declared.reach.Reach.{Reach}
use Rattle.ssr_syntax_forms.specs.declared.tokens.Token.{Token}
use Rattle.ssr_syntax_places.specs.Woven.{Part, woven, begins_seam, AreWoven, pieces_parts, StandFor}
use Rattle.ssr_syntax_places.proofs.AlignedParts.{same_front}

-- ** What is at a seam is there, and solid.

seam_solid : (kind : SyntaxKind) → is_seam_kind kind ≡ true → is_trivia kind ≡ false
seam_solid k.WHITESPACE is = absurd (cc)
seam_solid k.COMMENT is = absurd (cc)
seam_solid _ is = refl

pub front_some : (ts : List RawToken) → ends_at_seam ts ≡ true → 0 < length (solid_tokens ts)
front_some [] is = absurd (cc)
front_some (t ∷ []) is =
    let one : length (solid_tokens (t ∷ [])) ≡ 1 = ap (λ b. length (if b then [] else solid_token t [] ∷ [])) (seam_solid t.kind is) in
    omega (arith, one)
front_some (t ∷ u ∷ us) is =
    elim (is_trivia t.kind)
    as (λ b. 0 < length (if b then solid_tokens (u ∷ us) else solid_token t (u ∷ us) ∷ solid_tokens (u ∷ us)))
    [ true ↦ front_some (u ∷ us) is | false ↦ omega arith ]

some_pieces : (text : List ℕ) (raw : List RawToken) → ends_at_seam raw ≡ true → 0 < length (pieces text raw)
some_pieces text [] is = absurd (cc)
some_pieces text (t ∷ ts) is = omega arith

begin_pieces : (text : List ℕ) (raw : List RawToken) → begins_at_seam raw ≡ true → 0 < length (pieces text raw)
begin_pieces text [] is = absurd (cc)
begin_pieces text (t ∷ ts) is = omega arith

front_pieces : (p : Part) (ps : List Part) (last : List ℕ) → AreWoven (p ∷ ps) last → 0 < length (pieces (p.front ++ p.opening ∷ []) p.before)
front_pieces p ps last (utf8, opens, front_is, inside_is, seam, all) =
    some_pieces (p.front ++ p.opening ∷ []) p.before (seam_ends p.front p.opening p.before utf8 opens front_is.lexes front_is.ended)

-- behind an inside there is something
last_pieces : (last : List ℕ) (after : List RawToken) → tokens last ≡ Some after → begins_seam last ≡ true → 0 < length (pieces last after)
last_pieces [] after lexes seam = absurd (cc)
last_pieces (c ∷ last) after lexes seam = begin_pieces (c ∷ last) after (seam_begins last c after seam lexes)

rest_pieces : (ps : List Part) (last : List ℕ) (after : List RawToken) → AreWoven ps last → tokens last ≡ Some after → begins_seam (woven ps last) ≡ true
    → 0 < length (pieces_parts ps (pieces last after))
rest_pieces [] last after all lexes seam = last_pieces last after lexes seam
rest_pieces (p ∷ ps) last after all lexes seam =
    omega (
      arith,
      front_pieces p ps last all,
      length-append (pieces (p.front ++ p.opening ∷ []) p.before) (pieces p.inside p.within ++ pieces_parts ps (pieces last after)),
    )

-- ** Beginnings and ends.

first_of : (ts us : List plain.Token) → 0 < length ts → begins_with_trivia (ts ++ us) ≡ begins_with_trivia ts
first_of [] us some = absurd (omega (arith, some))
first_of (t ∷ ts) us some = refl

pub last_of : (ts us : List plain.Token) → 0 < length us → begins_with_trivia (reverse (ts ++ us)) ≡ begins_with_trivia (reverse us)
last_of ts us some =
    ap begins_with_trivia (reverse-append ts us) ∙ first_of (reverse us) (reverse ts) (omega (arith, some, length-reverse us))

-- the last one of the parts is the one behind all insides
last_part : (p : Part) (ps : List Part) (last : List ℕ) (after : List RawToken) → AreWoven (p ∷ ps) last → tokens last ≡ Some after
    → begins_with_trivia (reverse (pieces_parts (p ∷ ps) (pieces last after))) ≡ begins_with_trivia (reverse (pieces_parts ps (pieces last after)))
last_part p ps last after (utf8, opens, front_is, inside_is, seam, all) lexes =
    let rest : List plain.Token = pieces_parts ps (pieces last after) in
    let some : 0 < length rest = rest_pieces ps last after all lexes seam in
    last_of (pieces (p.front ++ p.opening ∷ []) p.before) (pieces p.inside p.within ++ rest) (omega (arith, some, length-append (pieces p.inside p.within) rest))
    ∙ last_of (pieces p.inside p.within) rest some

pub same_last : (reach : Reach) (holes : Holes) (at : ℕ) (short long : List Part) (last : List ℕ) (after : List RawToken) → AreWoven short last
    → AreWoven long last → StandFor holes at short long (solid_tokens after) → tokens last ≡ Some after
    → begins_with_trivia (reverse (pieces_parts long (pieces last after))) ≡ begins_with_trivia (reverse (pieces_parts short (pieces last after)))
same_last reach holes at [] [] last after is other stand lexes = refl
same_last reach holes at [] (q ∷ qs) last after is other stand lexes = absurd stand
same_last reach holes at (p ∷ ps) [] last after is other stand lexes = absurd stand
same_last reach holes at (p ∷ ps) (q ∷ qs) last after is other (hole, same, own, single, held, filling, others) lexes =
    last_part q qs last after other lexes
    ∙ same_last reach holes ((at + length (solid_tokens p.before)) + 1) ps qs last after is.5 other.5 others lexes
    ∙ sym (last_part p ps last after is lexes)

same_first : (reach : Reach) (holes : Holes) (at : ℕ) (short long : List Part) (last : List ℕ) (after : List Token) (rest : List plain.Token) → AreWoven short last
    → AreWoven long last → StandFor holes at short long after → AreInsides reach holes at short long
    → begins_with_trivia (pieces_parts long rest) ≡ begins_with_trivia (pieces_parts short rest)
same_first reach holes at [] [] last after rest is other stand insides = refl
same_first reach holes at [] (q ∷ qs) last after rest is other stand insides = absurd stand
same_first reach holes at (p ∷ ps) [] last after rest is other stand insides = absurd stand
same_first reach holes at (p ∷ ps) (q ∷ qs) last after rest is other stand (known, front, opening, one, known_held, inside, insides) =
    let short : List plain.Token = pieces (p.front ++ p.opening ∷ []) p.before in
    let long : List plain.Token = pieces (q.front ++ q.opening ∷ []) q.before in
    first_of long (pieces q.inside q.within ++ pieces_parts qs rest) (front_pieces q qs last other)
    ∙ ap begins_with_trivia (same_front p q is.2 other.2 front opening)
    ∙ sym (first_of short (pieces p.inside p.within ++ pieces_parts ps rest) (front_pieces p ps last is))

-- ** As the reading asks.

pub reversed_pieces : (text : List ℕ) (raw : List RawToken) → reverse (pieces text raw) ≡ pieces text (reverse raw)
reversed_pieces text raw =
    sym (map-reverse (λ (t : RawToken). let p : plain.Token = record { kind = t.kind; text = token_text text t } in p) raw)

begins_is : (text : List ℕ) (raw : List RawToken) → begins_with_trivia (pieces text raw) ≡ false → begins_solid raw ≡ true
begins_is text [] none = refl
begins_is text (t ∷ ts) none = ap not none

sides_solid : (text : List ℕ) (raw : List RawToken) → begins_with_trivia (pieces text raw) ≡ false → begins_with_trivia (reverse (pieces text raw)) ≡ false
    → (begins_solid raw && begins_solid (reverse raw)) ≡ true
sides_solid text raw first last =
    and_from (begins_solid raw) (begins_solid (reverse raw)) (begins_is text raw first)
    (begins_is text (reverse raw) (ap begins_with_trivia (sym (reversed_pieces text raw)) ∙ last))

pub same_outside : (reach : Reach) (holes : Holes) (short long : List Part) (last : List ℕ) (after raw others : List RawToken) (text other_text : List ℕ)
    → AreWoven short last → AreWoven long last → StandFor holes 0 short long (solid_tokens after) → AreInsides reach holes 0 short long
    → tokens last ≡ Some after → pieces text raw ≡ pieces_parts short (pieces last after)
    → pieces other_text others ≡ pieces_parts long (pieces last after) → (begins_solid raw && begins_solid (reverse raw)) ≡ true
    → (begins_solid others && begins_solid (reverse others)) ≡ true
same_outside reach holes short long last after raw others text other_text is other stand insides lexes short_is long_is outside =
    let sides = solid_sides text raw outside in
    let rest : List plain.Token = pieces last after in
    sides_solid other_text others
    (ap begins_with_trivia long_is ∙ same_first reach holes 0 short long last (solid_tokens after) rest is other stand insides ∙ ap begins_with_trivia (sym short_is) ∙ sides.0)
    (ap (λ l. begins_with_trivia (reverse l)) long_is ∙ same_last reach holes 0 short long last after is other stand lexes
    ∙ ap (λ l. begins_with_trivia (reverse l)) (sym short_is) ∙ sides.1)
