-- Tokens that are the same up to a brace that opens: no look that stops at one tells them apart.
use Rattle.std.proofs.Common.{◌≡◌, ℕ, zero, suc, ◌-◌, Bool, true, false, not, ◌&&◌, ◌||◌, List, [], ◌∷◌, ◌++◌, take, drop, refl, sym, ap, ◌∙◌}
use Rattle.std.proofs.lemmas.Bool.{and_left, and_parts, not-true, or_parts}
use Rattle.ssr_syntax_kinds.specs.declared.kinds.SyntaxKind.{SyntaxKind}
use Rattle.ssr_syntax_kinds.specs.declared.kinds.SyntaxKind.TheVariants as k
use Rattle.ssr_syntax_kinds.specs.Kinds.{same_kind}
use Rattle.ssr_syntax_kinds.proofs.Shared.{same_kind-equal}
use Rattle.ssr_syntax_forms.specs.declared.tokens.Token.{Token}
use Rattle.ssr_syntax_forms.specs.Kinds.{mem}
use Rattle.ssr_syntax_forms.specs.Forms.{Test, are_next, passes}
use Rattle.ssr_syntax_places.specs.Placing.{has_open, begins_open, keeps_opens}

pub keeps_opens_behind : (us vs : List Token) → keeps_opens (us ++ vs) ≡ true → keeps_opens vs ≡ true
keeps_opens_behind [] vs h = h
keeps_opens_behind (t ∷ us) vs h = keeps_opens_behind us vs (and_parts (not (has_open (take (t.size - 1) (us ++ vs)))) (keeps_opens (us ++ vs)) h).1

-- the same up to a brace that opens
pub data Alike : List Token → List Token → Type 0 where
  both_end : Alike [] []
  both_open : {t u : Token} {ts us : List Token} → same_kind t.joined k.L_CURLY ≡ true → same_kind u.joined k.L_CURLY ≡ true
      → Alike (t ∷ ts) (u ∷ us)
  both_next : {t : Token} {ts us : List Token} → has_open (take (t.size - 1) ts) ≡ false → Alike ts us → Alike (t ∷ ts) (t ∷ us)

alike_dropped : (n : ℕ) (ts us : List Token) → Alike ts us → has_open (take n ts) ≡ false → Alike (drop n ts) (drop n us)
alike_dropped zero ts us alike shut = alike
alike_dropped (suc n) _ _ both_end shut = both_end
alike_dropped (suc n) _ _ (both_open {t = t} {u = u} {ts = ts} {us = us} here there) shut =
    let other = (or_parts (same_kind t.joined k.L_CURLY) (has_open (take n ts)) shut).0 in absurd (cc (here, other))
alike_dropped (suc n) _ _ (both_next {t = t} {ts = ts} {us = us} inner alike) shut =
    alike_dropped n ts us alike (or_parts (same_kind t.joined k.L_CURLY) (has_open (take n ts)) shut).1

pub alike_front : (us ts vs : List Token) → keeps_opens (us ++ ts) ≡ true → Alike ts vs → Alike (us ++ ts) (us ++ vs)
alike_front [] ts vs keeps alike = alike
alike_front (t ∷ us) ts vs keeps alike =
    let halves = and_parts (not (has_open (take (t.size - 1) (us ++ ts)))) (keeps_opens (us ++ ts)) keeps in
    both_next (not-true (has_open (take (t.size - 1) (us ++ ts))) halves.0) (alike_front us ts vs halves.1 alike)

pub alike_open : (us vs ts ws : List Token) → begins_open us ≡ true → begins_open vs ≡ true → Alike (us ++ ts) (vs ++ ws)
alike_open [] vs ts ws a b = absurd (cc)
alike_open (t ∷ us) [] ts ws a b = absurd (cc)
alike_open (t ∷ us) (u ∷ vs) ts ws a b = both_open a b

-- ** Tests that don't look past a brace that opens.

abbrev pub string_stops_open : List (List SyntaxKind) → Bool
string_stops_open [] = true
string_stops_open (ks ∷ []) = true
string_stops_open (ks ∷ ls ∷ string) = not (mem k.L_CURLY ks) && string_stops_open (ls ∷ string)

abbrev pub stops_open : Test → Bool
stops_open [] = true
stops_open (string ∷ test) = string_stops_open string && stops_open test

both_are : (t u : Token) → same_kind t.joined k.L_CURLY ≡ true → same_kind u.joined k.L_CURLY ≡ true → t.joined ≡ u.joined
both_are t u a b = same_kind-equal t.joined k.L_CURLY a ∙ sym (same_kind-equal u.joined k.L_CURLY b)

at_open : (ks : List SyntaxKind) (t : Token) (x : Bool) → mem k.L_CURLY ks ≡ false → same_kind t.joined k.L_CURLY ≡ true → (mem t.joined ks && x) ≡ false
at_open ks t x other is = and_left (mem t.joined ks) x (ap (λ kind. mem kind ks) (same_kind-equal t.joined k.L_CURLY is) ∙ other)

string_alike : (string : List (List SyntaxKind)) (ts us : List Token) → string_stops_open string ≡ true → Alike ts us → are_next string ts ≡ are_next string us
string_alike [] ts us halts alike = refl
string_alike (ks ∷ string) _ _ halts both_end = refl
string_alike (ks ∷ []) _ _ halts (both_open {t = t} {u = u} {ts = ts} {us = us} a b) = ap (λ kind. mem kind ks && true) (both_are t u a b)
string_alike (ks ∷ ls ∷ string) _ _ halts (both_open {t = t} {u = u} {ts = ts} {us = us} a b) =
    let other = not-true (mem k.L_CURLY ks) (and_parts (not (mem k.L_CURLY ks)) (string_stops_open (ls ∷ string)) halts).0 in
    at_open ks t (are_next (ls ∷ string) (drop (t.size - 1) ts)) other a ∙ sym (at_open ks u (are_next (ls ∷ string) (drop (u.size - 1) us)) other b)
string_alike (ks ∷ []) _ _ halts (both_next {t = t} {ts = ts} {us = us} inner alike) = refl
string_alike (ks ∷ ls ∷ string) _ _ halts (both_next {t = t} {ts = ts} {us = us} inner alike) =
    let further = (and_parts (not (mem k.L_CURLY ks)) (string_stops_open (ls ∷ string)) halts).1 in
    ap (λ w. mem t.joined ks && w)
    (string_alike (ls ∷ string) (drop (t.size - 1) ts) (drop (t.size - 1) us) further (alike_dropped (t.size - 1) ts us alike inner))

pub test_alike : (test : Test) (ts us : List Token) → stops_open test ≡ true → Alike ts us → passes test ts ≡ passes test us
test_alike [] ts us halts alike = refl
test_alike (string ∷ test) ts us halts alike =
    let s = and_parts (string_stops_open string) (stops_open test) halts in
    ap (λ w. w || passes test ts) (string_alike string ts us s.0 alike) ∙ ap (λ w. are_next string us || w) (test_alike test ts us s.1 alike)
