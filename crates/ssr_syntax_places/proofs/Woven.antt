-- A text with several insides has the tokens of its parts, and with names for the insides those of a template.
use Rattle.std.proofs.Common.{◌≡◌, ℕ, ◌+◌, true, List, [], ◌∷◌, ◌++◌, length, Some, refl, ap, ◌∙◌}
use Rattle.ssr_syntax_lex.specs.Tokens.{tokens}
use Rattle.ssr_syntax_lex.specs.declared.tokens.RawToken.{RawToken}
use Rattle.ssr_syntax_forms.specs.declared.tokens.Token.{Token}
use Rattle.ssr_syntax_rows.specs.Solid.{solid_tokens, pieces}
use Rattle.ssr_syntax_places.specs.Core.{Holes, is_single, tokens_filled}
use Rattle.ssr_syntax_places.specs.Insides.{HasParts}
use Rattle.ssr_syntax_places.specs.Woven.{Part, woven, AreWoven, solid_parts, pieces_parts, StandFor}
use Rattle.ssr_syntax_places.proofs.Filling.{filled_append, single_filled, spelled, tokens_front}
use Rattle.ssr_syntax_places.proofs.Insides.{put_inside}

-- ** Tokens of texts.

abbrev HasTokens : List ℕ → List Token → Type 0
HasTokens text solid = (raw : List RawToken) × (tokens text ≡ Some raw) × (solid_tokens raw ≡ solid)

-- one part in front of a text that begins with a seam
part_in_front : (p : Part) (rest : List ℕ) (after : List RawToken) → AreWoven (p ∷ []) rest → tokens rest ≡ Some after
    → HasParts p.front p.opening p.inside rest p.before p.within after
part_in_front p [] after (utf8, opens, front_is, inside_is, seam, all) lexes = absurd (cc)
part_in_front p (c ∷ rest) after (utf8, opens, front_is, inside_is, seam, all) lexes =
    put_inside p.front p.inside rest p.opening c p.before p.within after utf8 opens seam front_is inside_is lexes

pub woven_lexes : (ps : List Part) (last : List ℕ) (after : List RawToken) → AreWoven ps last → tokens last ≡ Some after
    → (raw : List RawToken) × (tokens (woven ps last) ≡ Some raw) × (solid_tokens raw ≡ solid_parts ps (solid_tokens after))
    × (pieces (woven ps last) raw ≡ pieces_parts ps (pieces last after))
woven_lexes [] last after all lexes = (after, lexes, refl, refl)
woven_lexes (p ∷ ps) last after (utf8, opens, front_is, inside_is, seam, all) lexes =
    let (rest, rest_lexes, rest_solid, rest_pieces) = woven_lexes ps last after all lexes in
    let whole = part_in_front p (woven ps last) rest (utf8, opens, front_is, inside_is, seam, tt) rest_lexes in (
      whole.raw,
      whole.lexes,
      whole.solid ∙ ap (λ w. solid_tokens p.before ++ (solid_tokens p.within ++ w)) rest_solid,
      whole.texts ∙ ap (λ w. pieces (p.front ++ p.opening ∷ []) p.before ++ (pieces p.inside p.within ++ w)) rest_pieces,
    )

-- ** Names for insides.

pub single_length : (us : List Token) → is_single us ≡ true → length us ≡ 1
single_length [] is = absurd (cc)
single_length (t ∷ []) is = refl
single_length (t ∷ u ∷ us) is = absurd (cc)

pub woven_filled : (holes : Holes) (at : ℕ) (ps qs : List Part) (after : List Token) → StandFor holes at ps qs after
    → tokens_filled holes at (solid_parts ps after) ≡ solid_parts qs after
woven_filled holes at [] [] after is = spelled holes at after is
woven_filled holes at [] (q ∷ qs) after is = absurd is
woven_filled holes at (p ∷ ps) [] after is = absurd is
woven_filled holes at (p ∷ ps) (q ∷ qs) after (hole, same, before, single, held, filling, others) =
    let us : List Token = solid_tokens p.before in
    let name : List Token = solid_tokens p.within in
    let place : ℕ = at + length us in
    let next : ℕ = place + length name in
    let rest : tokens_filled holes next (solid_parts ps after) ≡ solid_parts qs after =
    ap (λ n. tokens_filled holes (place + n) (solid_parts ps after)) (single_length name single) ∙ woven_filled holes (place + 1) ps qs after others in
    tokens_front holes at us (name ++ solid_parts ps after) (solid_tokens q.within ++ solid_parts qs after) (spelled holes at us before)
    (filled_append holes place name (solid_parts ps after)
    ∙ ap (λ w. w ++ tokens_filled holes next (solid_parts ps after)) (single_filled holes place hole name single held ∙ filling)
    ∙ ap (λ w. solid_tokens q.within ++ w) rest)
    ∙ ap (λ w. w ++ (solid_tokens q.within ++ solid_parts qs after)) same
