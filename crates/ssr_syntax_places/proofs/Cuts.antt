-- A text is cut at all its insides, and others may stand there.
use Rattle.std.proofs.Common.{◌≡◌, ℕ, ◌+◌, true, List, [], ◌∷◌, ◌++◌, length, Some, refl, sym, ap, subst, ◌∙◌, arith}
use Rattle.std.specs.Str.{IsUtf8}
use Rattle.ssr_syntax_lex.specs.Seams.{is_seam, side_by_side, has_token_at}
use Rattle.ssr_syntax_lex.specs.Tokens.{tokens}
use Rattle.ssr_syntax_lex.specs.declared.tokens.RawToken.{RawToken}
use Rattle.ssr_syntax_lex.proofs.Shared.{before_seam, behind_seam, same_places}
use Rattle.ssr_syntax_places.specs.Insides.{with_inside, IsLexed, AreParts}
use Rattle.ssr_syntax_places.specs.Woven.{Part, Cut, woven, begins_seam, AreWoven, cut_text, cuts_of, AreCuts, AreCut, AreReplaced}
use Rattle.ssr_syntax_places.proofs.Insides.{cut_inside, place_behind, some_same}

-- ** Places behind an inside.

-- the tokens of a text with an inside, as those of its parts
whole_raw : (front inside behind : List ℕ) (opening closing : ℕ) (raw : List RawToken) (ps : AreParts front opening inside (closing ∷ behind) raw)
    → IsUtf8 front → is_seam opening ≡ true → is_seam closing ≡ true → tokens (with_inside front opening inside (closing ∷ behind)) ≡ Some raw
    → raw ≡ side_by_side (length front + 1) ps.before (side_by_side (length inside) ps.within ps.after)
whole_raw front inside behind opening closing raw ps utf8 opens closes lexes =
    let inner : List RawToken = side_by_side (length inside) ps.within ps.after in
    let inner_lexes = before_seam inside behind closing ps.within ps.after ps.inside_lexed.utf8 closes ps.inside_lexed.lexes ps.behind_lexes ps.inside_lexed.ended in
    some_same raw (side_by_side (length front + 1) ps.before inner)
    (sym lexes ∙ behind_seam front (inside ++ closing ∷ behind) opening ps.before inner utf8 opens ps.front_lexed.lexes inner_lexes ps.front_lexed.ended)

behind_place : (front inside behind : List ℕ) (opening closing n : ℕ) (raw : List RawToken) (ps : AreParts front opening inside (closing ∷ behind) raw)
    → IsUtf8 front → is_seam opening ≡ true → is_seam closing ≡ true → tokens (with_inside front opening inside (closing ∷ behind)) ≡ Some raw
    → has_token_at (((length front + 1) + length inside) + n) raw ≡ true → has_token_at n ps.after ≡ true
behind_place front inside behind opening closing n raw ps utf8 opens closes lexes at =
    let inner : List RawToken = side_by_side (length inside) ps.within ps.after in
    let sum : ((length front + 1) + length inside) + n ≡ (length front + 1) + (length inside + n) = omega arith in
    let there : has_token_at (length inside + n) inner ≡ true =
    place_behind front opening (length inside + n) raw ps.before inner ps.front_lexed
    (whole_raw front inside behind opening closing raw ps utf8 opens closes lexes)
    (ap (λ l. has_token_at l raw) (sym sum) ∙ at) in
    sym (same_places inside n ps.within ps.after ps.inside_lexed.utf8 ps.inside_lexed.lexes) ∙ there

-- ** All cuts.

-- a place among all tokens is one of the tokens that are left
abbrev AreLeft : ℕ → List RawToken → List RawToken → Type 0
AreLeft at all raw = (n : ℕ) → has_token_at (at + n) all ≡ true → has_token_at n raw ≡ true

-- what is cut at the first inside is cut at those behind it, too
first_cut : (at : ℕ) (all raw : List RawToken) (c : Cut) (cs : List Cut) (last : List ℕ) (closing : ℕ) (behind : List ℕ) → cut_text cs last ≡ closing ∷ behind
    → tokens (with_inside c.front c.opening c.inside (closing ∷ behind)) ≡ Some raw → AreLeft at all raw → AreCuts at all (c ∷ cs) last
    → ((rest : List RawToken) → tokens (cut_text cs last) ≡ Some rest → AreLeft (at + ((length c.front + 1) + length c.inside)) all rest → AreCut cs last)
    → AreCut (c ∷ cs) last
first_cut at all raw c cs last closing behind e lexes left (utf8, inside_utf8, opens, seam, at_front, at_behind, are) further =
    let closes : is_seam closing ≡ true = ap begins_seam (sym e) ∙ seam in
    let ps = cut_inside c.front c.inside behind c.opening closing raw utf8 inside_utf8 opens closes lexes (left (length c.front) at_front)
    (left ((length c.front + 1) + length c.inside) at_behind) in
    let rest = further ps.after (ap tokens e ∙ ps.behind_lexes) (λ n there.
    behind_place c.front c.inside behind c.opening closing n raw ps utf8 opens closes lexes
    (left (((length c.front + 1) + length c.inside) + n) (ap (λ l. has_token_at l all) (reach_sum at ((length c.front + 1) + length c.inside) n) ∙ there))) in
    let part : Part = record { front = c.front; opening = c.opening; inside = c.inside; before = ps.before; within = ps.within } in
    record {
      parts = part ∷ rest.parts;
      after = rest.after;
      texts = ap (λ l. c ∷ l) rest.texts;
      are = (utf8, opens, ps.front_lexed, ps.inside_lexed, ap begins_seam (parts_text rest.parts cs last rest.texts) ∙ seam, rest.are);
      lexes = rest.lexes;
    } where
      reach_sum : (a b n : ℕ) → a + (b + n) ≡ (a + b) + n
      reach_sum a b n = omega arith

      woven_text : (ps : List Part) (last : List ℕ) → woven ps last ≡ cut_text (cuts_of ps) last
      woven_text [] last = refl
      woven_text (p ∷ ps) last = ap (λ l. with_inside p.front p.opening p.inside l) (woven_text ps last)

      parts_text : (ps : List Part) (cs : List Cut) (last : List ℕ) → cuts_of ps ≡ cs → woven ps last ≡ cut_text cs last
      parts_text ps cs last e = woven_text ps last ∙ ap (λ l. cut_text l last) e

all_cut : (at : ℕ) (all raw : List RawToken) (cs : List Cut) (last : List ℕ) → tokens (cut_text cs last) ≡ Some raw → AreLeft at all raw
    → AreCuts at all cs last → AreCut cs last
all_cut at all raw [] last lexes left are = record { parts = []; after = raw; texts = refl; are = tt; lexes = lexes }
all_cut at all raw (c ∷ cs) last lexes left are =
    let text = split_text (cut_text cs last) are.3 in
    first_cut at all raw c cs last text.0 text.1 text.2
    (ap (λ l. tokens (with_inside c.front c.opening c.inside l)) (sym text.2) ∙ lexes) left are
    (λ rest rest_lexes rest_left. all_cut (at + ((length c.front + 1) + length c.inside)) all rest cs last rest_lexes rest_left are.6) where
      split_text : (text : List ℕ) → begins_seam text ≡ true → (closing : ℕ) × (behind : List ℕ) × (text ≡ closing ∷ behind)
      split_text [] seam = absurd (cc)
      split_text (d ∷ ds) seam = (d, ds, refl)

pub many_cut : (cs : List Cut) (last : List ℕ) (raw : List RawToken) → tokens (cut_text cs last) ≡ Some raw → AreCuts 0 raw cs last → AreCut cs last
many_cut cs last raw lexes are = all_cut 0 raw raw cs last lexes (λ n there. ap (λ l. has_token_at l raw) (zero_sum n) ∙ there) are where
  zero_sum : (n : ℕ) → n ≡ 0 + n
  zero_sum n = omega arith

-- ** Other insides.

begins_alike : (p q : Part) (x y : List ℕ) → p.front ≡ q.front → p.opening ≡ q.opening
    → begins_seam (with_inside p.front p.opening p.inside x) ≡ begins_seam (with_inside q.front q.opening q.inside y)
begins_alike p q x y front opening =
    first_of p.front p.opening (p.inside ++ x)
    ∙ ap (λ l. begins_seam (l ++ p.opening ∷ [])) front ∙ ap (λ c. begins_seam (q.front ++ c ∷ [])) opening
    ∙ sym (first_of q.front q.opening (q.inside ++ y)) where
      first_of : (front : List ℕ) (opening : ℕ) (rest : List ℕ) → begins_seam (front ++ opening ∷ rest) ≡ begins_seam (front ++ opening ∷ [])
      first_of [] opening rest = refl
      first_of (c ∷ front) opening rest = refl

woven_begins : (ps qs : List Part) (last : List ℕ) → AreReplaced ps qs → begins_seam (woven ps last) ≡ begins_seam (woven qs last)
woven_begins [] [] last are = refl
woven_begins [] (q ∷ qs) last are = absurd are
woven_begins (p ∷ ps) [] last are = absurd are
woven_begins (p ∷ ps) (q ∷ qs) last (front, opening, before, inside, others) = begins_alike p q (woven ps last) (woven qs last) front opening

front_same : (p q : Part) → p.front ≡ q.front → p.opening ≡ q.opening → p.before ≡ q.before → IsLexed (p.front ++ p.opening ∷ []) p.before
    → IsLexed (q.front ++ q.opening ∷ []) q.before
front_same p q front opening before lexed =
    subst (λ l. IsLexed (q.front ++ q.opening ∷ []) l) before
    (subst (λ l. IsLexed l p.before) (ap (λ l. l ++ p.opening ∷ []) front ∙ ap (λ c. q.front ++ c ∷ []) opening) lexed)

pub woven_replaced : (ps qs : List Part) (last : List ℕ) → AreWoven ps last → AreReplaced ps qs → AreWoven qs last
woven_replaced [] [] last is are = tt
woven_replaced [] (q ∷ qs) last is are = absurd are
woven_replaced (p ∷ ps) [] last is are = absurd are
woven_replaced (p ∷ ps) (q ∷ qs) last (utf8, opens, front_is, inside_is, seam, all) (front, opening, before, inside, others) = (
  subst IsUtf8 front utf8,
  ap is_seam (sym opening) ∙ opens,
  front_same p q front opening before front_is,
  inside,
  sym (woven_begins ps qs last others) ∙ seam,
  woven_replaced ps qs last all others,
)
