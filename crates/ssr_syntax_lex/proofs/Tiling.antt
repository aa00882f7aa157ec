-- The tokens' ranges are the whole text in order.
use Rattle.std.proofs.Common.{◌≡◌, ℕ, suc, zero, ◌+◌, ◌-◌, ◌<◌, ◌≤◌, List, [], ◌∷◌, ◌++◌, length, drop, refl, sym, ap, subst, ◌∙◌, arith, append_assoc, length-append}
use Rattle.std.specs.Prelude.{Option, Some, None, slice_range, encode_utf8_all, IsCharBoundary, Result, Ok, Err, Vec, IfOk}
use Rattle.std.specs.Option.{option_map, option_and_then}
use Rattle.std.specs.Str.{chars, IsUtf8}
use Rattle.std.proofs.lemmas.List.{take-append-drop, drop-drop, drop_all}
use Rattle.std.proofs.lemmas.Option.{same_Some}
use Rattle.std.proofs.lemmas.Str.{encodes-append, encodes-chars, IsUtf8-past_char, IsCharBoundary-at_seam}
use Rattle.ssr_syntax_lex.specs.Cursor.{Chars}
use Rattle.ssr_syntax_lex.specs.Raw.{Taken, token}
use Rattle.ssr_syntax_lex.specs.Tokens.{size, range_of, in_front, dots_behind, tokens_from, tokens, token_text, spell, TilesFrom, Tiles, Lexes}
use Rattle.ssr_syntax_kinds.specs.declared.kinds.SyntaxKind.{SyntaxKind}
use Rattle.ssr_syntax_lex.specs.declared.tokens.RawToken.{RawToken}
use Rattle.ssr_syntax_lex.proofs.Fronts.{Follows, token_leaves, shorter}
use Rattle.std.specs.declared.alloc.Global.{Global}
use Rattle.ssr_syntax_lex.specs.declared.tokens.LexError.{LexError}

-- the end of a text is a text
ends_utf8 : (taken rest : Chars) → IsUtf8 (encode_utf8_all (taken ++ rest)) → IsUtf8 (encode_utf8_all rest)
ends_utf8 [] rest utf8 = utf8
ends_utf8 (c ∷ cs) rest utf8 =
    ends_utf8 cs rest (IsUtf8-past_char (encode_utf8_all (c ∷ (cs ++ rest))) (encode_utf8_all (cs ++ rest)) c utf8 refl)

-- the characters are the end of the text from a byte on
pub record EndsAt (text : List ℕ) (start : ℕ) (cs : Chars) : Type 0 where
  pub front : List ℕ
  pub parts : text ≡ front ++ encode_utf8_all cs
  pub place : length front ≡ start
  pub utf8 : IsUtf8 (encode_utf8_all cs)

boundary : (text : List ℕ) (start : ℕ) (cs : Chars) → EndsAt text start cs → IsCharBoundary text start
boundary text start cs ends =
    subst (IsCharBoundary text) ends.place (IsCharBoundary-at_seam text ends.front (encode_utf8_all cs) ends.parts ends.utf8)

at_end : (start whole front : ℕ) → front ≡ start → whole ≡ front + 0 → start ≡ whole
at_end start whole front p e = omega arith

some_bytes : (start here left : ℕ) → left < here → start < start + (here - left)
some_bytes start here left h = omega arith

further : (start front here took left : ℕ) → front ≡ start → here ≡ took + left → front + took ≡ start + (here - left)
further start front here took left f h = omega arith

pub ends_further : (text : List ℕ) (start c : ℕ) (cs rest : Chars) → EndsAt text start (c ∷ cs) → Follows cs rest → EndsAt text (start + (size (c ∷ cs) - size rest)) rest
ends_further text start c cs rest ends (taken, e) =
    let whole : encode_utf8_all (c ∷ cs) ≡ encode_utf8_all (c ∷ taken) ++ encode_utf8_all rest =
    ap (λ xs. encode_utf8_all (c ∷ xs)) e ∙ encodes-append (c ∷ taken) rest in
    let sizes : size (c ∷ cs) ≡ size (c ∷ taken) + size rest =
    ap length whole ∙ length-append (encode_utf8_all (c ∷ taken)) (encode_utf8_all rest) in
    record {
      front = ends.front ++ encode_utf8_all (c ∷ taken);
      parts = ends.parts ∙ (ap (λ xs. ends.front ++ xs) whole ∙ sym (append_assoc ends.front (encode_utf8_all (c ∷ taken)) (encode_utf8_all rest)));
      place = length-append ends.front (encode_utf8_all (c ∷ taken)) ∙ further start (length ends.front) (size (c ∷ cs)) (size (c ∷ taken)) (size rest) ends.place sizes;
      utf8 = ends_utf8 (c ∷ taken) rest (subst (λ xs. IsUtf8 (encode_utf8_all (c ∷ xs))) e ends.utf8);
    }

-- the last token ends where the text does
end_tiles : (text : List ℕ) (start : ℕ) (ts : List RawToken) → EndsAt text start [] → ts ≡ [] → TilesFrom text start ts
end_tiles text start ts ends e =
    let whole : length text ≡ length ends.front + length (encode_utf8_all []) = ap length ends.parts ∙ length-append ends.front (encode_utf8_all []) in
    let last : start ≡ length text = at_end start (length text) (length ends.front) ends.place whole in
    subst (TilesFrom text start) (sym e) last

front_tiles : (text : List ℕ) (start c : ℕ) (cs rest : Chars) (kind : SyntaxKind) (ts us : List RawToken) → EndsAt text start (c ∷ cs) → Follows cs rest → ts ≡ in_front kind (range_of start (size (c ∷ cs) - size rest)) us → TilesFrom text (start + (size (c ∷ cs) - size rest)) us → TilesFrom text start ts
front_tiles text start c cs rest kind ts us ends follows e tiles =
    let less = shorter c cs rest follows in
    let here : TilesFrom text start (in_front kind (range_of start (size (c ∷ cs) - size rest)) us) =
    (refl, some_bytes start (size (c ∷ cs)) (size rest) less.1, boundary text start (c ∷ cs) ends, tiles) in
    subst (TilesFrom text start) (sym e) here

-- what tiles the rest, for every way to cut it
abbrev TilesRest : List ℕ → ℕ → Type 0
TilesRest text fuel = (start dots : ℕ) (cs : Chars) (ts : List RawToken) → EndsAt text start cs → tokens_from fuel start dots cs ≡ Some ts → TilesFrom text start ts

rest_case : (text : List ℕ) (fuel start dots c : ℕ) (cs rest : Chars) (kind : SyntaxKind) (ts : List RawToken) (o : Option (List RawToken)) → TilesRest text fuel → EndsAt text start (c ∷ cs) → Follows cs rest → tokens_from fuel (start + (size (c ∷ cs) - size rest)) dots rest ≡ o → option_map (in_front kind (range_of start (size (c ∷ cs) - size rest))) o ≡ Some ts → TilesFrom text start ts
rest_case text fuel start dots c cs rest kind ts None others ends follows is e = absurd (cc)
rest_case text fuel start dots c cs rest kind ts (Some us) others ends follows is e =
    front_tiles text start c cs rest kind ts us ends follows (sym (same_Some _ _ e))
    (others (start + (size (c ∷ cs) - size rest)) dots rest us (ends_further text start c cs rest ends follows) is)

token_case : (text : List ℕ) (fuel start dots c : ℕ) (cs : Chars) (ts : List RawToken) (o : Option Taken) → TilesRest text fuel → EndsAt text start (c ∷ cs) → token dots (c ∷ cs) ≡ o → option_and_then (λ (taken : Taken). let count : ℕ = size (c ∷ cs) - size taken.1 in option_map (in_front taken.0 (range_of start count)) (tokens_from fuel (start + count) (dots_behind dots taken.0) taken.1)) o ≡ Some ts → TilesFrom text start ts
token_case text fuel start dots c cs ts None others ends is e = absurd (cc)
token_case text fuel start dots c cs ts (Some taken) others ends is e =
    rest_case text fuel start (dots_behind dots taken.0) c cs taken.1 taken.0 ts (tokens_from fuel (start + (size (c ∷ cs) - size taken.1)) (dots_behind dots taken.0) taken.1) others ends (token_leaves dots c cs taken is) refl e

all_tile : (text : List ℕ) (fuel : ℕ) → TilesRest text fuel
all_tile text fuel start dots [] ts ends e = end_tiles text start ts ends (sym (same_Some _ _ e))
all_tile text zero start dots (c ∷ cs) ts ends e = absurd (cc)
all_tile text (suc fuel) start dots (c ∷ cs) ts ends e =
    token_case text fuel start dots c cs ts (token dots (c ∷ cs)) (all_tile text fuel) ends refl e

-- the tokens of a text are the whole text in order
pub tokens_tile : (text : List ℕ) (ts : List RawToken) → IsUtf8 text → tokens text ≡ Some ts → Tiles text ts
unfolding tokens
tokens_tile text ts utf8 e =
    all_tile text (length (chars text)) 0 0 (chars text) ts
    (record {
      front = [];
      parts = sym (encodes-chars text utf8);
      place = refl;
      utf8 = subst IsUtf8 (sym (encodes-chars text utf8)) utf8;
    }) e

-- a range and what follows it
range_and_rest : (text : List ℕ) (start end : ℕ) → start ≤ end → slice_range text start end ++ drop end text ≡ drop start text
range_and_rest text start end ordered =
    let sum : end ≡ start + (end - start) = omega arith in
    ap (λ xs. slice_range text start end ++ xs) (ap (λ n. drop n text) sum ∙ sym (drop-drop (end - start) start text))
    ∙ take-append-drop (end - start) (drop start text)

-- so their texts, one after the other, are the text
spell_from : (text : List ℕ) (start : ℕ) (ts : List RawToken) → TilesFrom text start ts → spell text ts ≡ drop start text
spell_from text start [] tiles = sym (ap (λ n. drop n text) tiles ∙ drop_all (length text) text (omega arith))
spell_from text start (t ∷ ts) tiles =
    ap (λ xs. token_text text t ++ xs) (spell_from text t.range.end ts tiles.3)
    ∙ (range_and_rest text t.range.start t.range.end t.range.ordered
    ∙ ap (λ n. drop n text) tiles.0)

pub tiles_spell : (text : List ℕ) (ts : List RawToken) → Tiles text ts → spell text ts ≡ text
tiles_spell text ts tiles = spell_from text 0 ts tiles

-- what holds of the tokens of a text holds of what `lex` gives
pub lexes_tile : (text : List ℕ) (r : Result (Vec RawToken Global) LexError) → IsUtf8 text → Lexes r text → IfOk r (λ v. Tiles text v.items)
lexes_tile text (Ok v) utf8 lexes = tokens_tile text v.items utf8 lexes.1
lexes_tile text (Err e) utf8 lexes = tt

pub lexes_spell : (text : List ℕ) (r : Result (Vec RawToken Global) LexError) → IsUtf8 text → Lexes r text → IfOk r (λ v. spell text v.items ≡ text)
lexes_spell text (Ok v) utf8 lexes = tiles_spell text v.items (tokens_tile text v.items utf8 lexes.1)
lexes_spell text (Err e) utf8 lexes = tt
