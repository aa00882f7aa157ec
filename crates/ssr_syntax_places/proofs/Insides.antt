-- What stands between two brackets, commas or `;` is lexed by itself, and anything else that lexes may stand there.
use Rattle.std.proofs.Common.{◌≡◌, ℕ, ◌+◌, ◌==◌, true, List, [], ◌∷◌, ◌++◌, length, Some, inl, inr, refl, sym, ap, subst, ◌∙◌, append_assoc, eqb-true}
use Rattle.std.specs.Prelude.{codes}
use Rattle.std.specs.Str.{IsUtf8}
use Rattle.std.proofs.lemmas.Bool.{or_cases, or_left, or_right}
use Rattle.std.proofs.lemmas.List.{length-append}
use Rattle.std.proofs.lemmas.Str.{IsUtf8-append}
use Rattle.ssr_syntax_lex.specs.Characters.{is_among}
use Rattle.ssr_syntax_lex.specs.Seams.{is_seam, side_by_side, has_token_at, begins_at_seam, ends_at_seam}
use Rattle.ssr_syntax_lex.specs.Tokens.{tokens}
use Rattle.ssr_syntax_lex.specs.declared.tokens.RawToken.{RawToken}
use Rattle.ssr_syntax_lex.proofs.Shared.{before_seam, behind_seam, cut_before_seam, cut_behind_seam, seam_begins, seam_ends, same_places}
use Rattle.ssr_syntax_rows.specs.Solid.{solid_tokens, pieces}
use Rattle.ssr_syntax_rows.proofs.Shared.{solid_seam, pieces_seam}
use Rattle.ssr_syntax_places.specs.Insides.{with_inside, IsLexed, HasParts, AreParts}

-- ** A seam is a character of one byte.

AllSingle : List ℕ → Type 0
AllSingle [] = Unit {0}
AllSingle (d ∷ ds) = IsUtf8 (d ∷ []) × AllSingle ds

single_among : (c : ℕ) (ds : List ℕ) → AllSingle ds → is_among c ds ≡ true → IsUtf8 (c ∷ [])
unfolding AllSingle
single_among c [] all is = absurd (cc)
single_among c (d ∷ []) all is = subst (λ b. IsUtf8 (b ∷ [])) (sym (eqb-true c d is)) all.0
single_among c (d ∷ e ∷ ds) all is =
    elim (or_cases (c == d) (is_among c (e ∷ ds)) is) [
      | inl here ↦ subst (λ b. IsUtf8 (b ∷ [])) (sym (eqb-true c d here)) all.0
      | inr later ↦ single_among c (e ∷ ds) all.1 later
    ]

seam_utf8 : (c : ℕ) → is_seam c ≡ true → IsUtf8 (c ∷ [])
unfolding AllSingle lib.Utf8.encode
seam_utf8 c is =
    single_among c (codes "()[]{},;") (
      (40 ∷ [], (refl, refl)),
      ((41 ∷ [], (refl, refl)), ((91 ∷ [], (refl, refl)), ((93 ∷ [], (refl, refl)), ((123 ∷ [], (refl, refl)), ((125 ∷ [], (refl, refl)), ((44 ∷ [], (refl, refl)), ((59 ∷ [], (refl, refl)), tt))))))),
    ) is

front_utf8 : (front : List ℕ) (opening : ℕ) → IsUtf8 front → is_seam opening ≡ true → IsUtf8 (front ++ opening ∷ [])
front_utf8 front opening utf8 is = IsUtf8-append front (opening ∷ []) utf8 (seam_utf8 opening is)

front_length : (front : List ℕ) (opening : ℕ) → length (front ++ opening ∷ []) ≡ length front + 1
front_length front opening = length-append front (opening ∷ [])

-- ** Put together.

put_texts : (front inside behind : List ℕ) (opening : ℕ) (before within after : List RawToken) → IsLexed (front ++ opening ∷ []) before
    → IsLexed inside within
    → pieces (with_inside front opening inside behind) (side_by_side (length front + 1) before (side_by_side (length inside) within after))
    ≡ pieces (front ++ opening ∷ []) before ++ (pieces inside within ++ pieces behind after)
put_texts front inside behind opening before within after front_is inside_is =
    let start : List ℕ = front ++ opening ∷ [] in
    let rest : List ℕ = inside ++ behind in
    let inner : List RawToken = side_by_side (length inside) within after in
    ap (λ text. pieces text (side_by_side (length front + 1) before inner)) (sym (append_assoc front (opening ∷ []) rest))
    ∙ ap (λ n. pieces (start ++ rest) (side_by_side n before inner)) (sym (front_length front opening))
    ∙ pieces_seam start rest before inner front_is.utf8 front_is.lexes
    ∙ ap (λ w. pieces start before ++ w) (pieces_seam inside behind within after inside_is.utf8 inside_is.lexes)

pub put_inside : (front inside behind : List ℕ) (opening closing : ℕ) (before within after : List RawToken) → IsUtf8 front → is_seam opening ≡ true
    → is_seam closing ≡ true → IsLexed (front ++ opening ∷ []) before → IsLexed inside within → tokens (closing ∷ behind) ≡ Some after
    → HasParts front opening inside (closing ∷ behind) before within after
put_inside front inside behind opening closing before within after utf8 opens closes front_is inside_is behind_lexes =
    let n : ℕ = length front + 1 in
    let inner : List RawToken = side_by_side (length inside) within after in
    let inner_lexes = before_seam inside behind closing within after inside_is.utf8 closes inside_is.lexes behind_lexes inside_is.ended in
    let seam_after = seam_begins behind closing after closes behind_lexes in
    let seam_before = seam_ends front opening before utf8 opens front_is.lexes front_is.ended in
    record {
      raw = side_by_side n before inner;
      lexes = behind_seam front (inside ++ closing ∷ behind) opening before inner utf8 opens front_is.lexes inner_lexes front_is.ended;
      solid =
          solid_seam (front ++ opening ∷ []) n before inner front_is.lexes (or_left (ends_at_seam before) (begins_at_seam inner) seam_before)
          ∙ ap (λ w. solid_tokens before ++ w)
          (solid_seam inside (length inside) within after inside_is.lexes (or_right (ends_at_seam within) (begins_at_seam after) seam_after));
      texts = put_texts front inside (closing ∷ behind) opening before within after front_is inside_is;
    }

-- ** Cut apart.

pub some_same : {A : Type 0} (x y : A) → Some x ≡ Some y → x ≡ y
some_same x y e = cc

same_raw : (text : List ℕ) (a b : List RawToken) → tokens text ≡ Some a → tokens text ≡ Some b → a ≡ b
same_raw text a b e d = some_same a b (sym e ∙ d)

-- where the inside ends, a token begins behind the front too
pub place_behind : (front : List ℕ) (opening n : ℕ) (raw before rest : List RawToken) → IsLexed (front ++ opening ∷ []) before
    → raw ≡ side_by_side (length front + 1) before rest → has_token_at ((length front + 1) + n) raw ≡ true → has_token_at n rest ≡ true
place_behind front opening n raw before rest front_is e at =
    let m : ℕ = length (front ++ opening ∷ []) in
    let same : m ≡ length front + 1 = front_length front opening in
    sym (same_places (front ++ opening ∷ []) n before rest front_is.utf8 front_is.lexes)
    ∙ ap (λ l. has_token_at (l + n) (side_by_side l before rest)) same
    ∙ sym (ap (has_token_at ((length front + 1) + n)) e) ∙ at

pub cut_inside : (front inside behind : List ℕ) (opening closing : ℕ) (raw : List RawToken) → IsUtf8 front → IsUtf8 inside → is_seam opening ≡ true
    → is_seam closing ≡ true → tokens (with_inside front opening inside (closing ∷ behind)) ≡ Some raw → has_token_at (length front) raw ≡ true
    → has_token_at ((length front + 1) + length inside) raw ≡ true → AreParts front opening inside (closing ∷ behind) raw
cut_inside front inside behind opening closing raw utf8 inside_utf8 opens closes lexes at_front at_behind =
    let (before, rest, front_lexes, rest_lexes, front_ended, raw_is) = cut_behind_seam front (inside ++ closing ∷ behind) opening raw utf8 opens lexes at_front in
    let front_is : IsLexed (front ++ opening ∷ []) before =
    record { utf8 = front_utf8 front opening utf8 opens; lexes = front_lexes; ended = front_ended } in
    let at : has_token_at (length inside) rest ≡ true = place_behind front opening (length inside) raw before rest front_is raw_is at_behind in
    let (within, after, inside_lexes, behind_lexes, inside_ended, rest_is) = cut_before_seam inside behind closing rest inside_utf8 closes rest_lexes at in
    let inside_is : IsLexed inside within = record { utf8 = inside_utf8; lexes = inside_lexes; ended = inside_ended } in
    let whole = put_inside front inside behind opening closing before within after utf8 opens closes front_is inside_is behind_lexes in
    record {
      before = before;
      within = within;
      after = after;
      front_lexed = front_is;
      inside_lexed = inside_is;
      behind_lexes = behind_lexes;
      parts = whole;
      same = same_raw (with_inside front opening inside (closing ∷ behind)) whole.raw raw whole.lexes lexes;
    }
