-- Where tokens begin in a text behind another one.
use Rattle.std.proofs.Common.{◌≡◌, ℕ, ◌+◌, ◌<◌, ◌≤◌, ◌==◌, Bool, true, false, ◌||◌, List, [], ◌∷◌, length, map, refl, sym, ap, ◌∙◌, arith, eqb-true, ne_eqb}
use Rattle.std.specs.Prelude.{Some}
use Rattle.std.specs.Str.{IsUtf8}
use Rattle.std.proofs.lemmas.Bool.{eq-eqb}
use Rattle.ssr_syntax_lex.specs.Tokens.{tokens, TilesFrom}
use Rattle.ssr_syntax_lex.specs.Seams.{moved, all_in_front, side_by_side, has_token_at}
use Rattle.ssr_syntax_lex.specs.declared.tokens.RawToken.{RawToken}
use Rattle.ssr_syntax_lex.proofs.Tiling.{tokens_tile}

tiled_within : (text : List ℕ) (start : ℕ) (ts : List RawToken) → TilesFrom text start ts → start ≤ length text
tiled_within text start [] tiles = omega (arith, tiles)
tiled_within text start (t ∷ ts) tiles = omega (arith, tiles.1, tiled_within text t.range.end ts tiles.3)

-- none of the first text's begins behind it
places_behind : (text : List ℕ) (start n : ℕ) (ts us : List RawToken) → TilesFrom text start ts → length text ≤ n → has_token_at n (all_in_front ts us) ≡ has_token_at n us
places_behind text start n [] us tiles beyond = refl
places_behind text start n (t ∷ ts) us tiles beyond =
    let within : t.range.end ≤ length text = tiled_within text t.range.end ts tiles.3 in
    let before : t.range.start < n = omega (arith, tiles.0, tiles.1, within, beyond) in
    ap (λ x. x || has_token_at n (all_in_front ts us)) (ne_eqb t.range.start n (λ same. omega (arith, same, before)))
    ∙ places_behind text t.range.end n ts us tiles.3 beyond

same_place : (n s m : ℕ) (x y : Bool) → (n + s == n + m) ≡ x → (s == m) ≡ y → x ≡ y
same_place n s m true true e f = refl
same_place n s m false false e f = refl
same_place n s m true false e f =
    let sums : n + s ≡ n + m = eqb-true (n + s) (n + m) e in
    let same : s ≡ m = omega (arith, sums) in
    sym (eq-eqb s m same) ∙ f
same_place n s m false true e f =
    let same : s ≡ m = eqb-true s m f in
    let sums : n + s ≡ n + m = omega (arith, same) in
    sym e ∙ eq-eqb (n + s) (n + m) sums

places_moved : (n m : ℕ) (us : List RawToken) → has_token_at (n + m) (map (moved n) us) ≡ has_token_at m us
places_moved n m [] = refl
places_moved n m (u ∷ us) =
    ap (λ x. x || has_token_at (n + m) (map (moved n) us)) (same_place n u.range.start m (n + u.range.start == n + m) (u.range.start == m) refl refl)
    ∙ ap (λ x. (u.range.start == m) || x) (places_moved n m us)

pub same_places : (a : List ℕ) (m : ℕ) (ts us : List RawToken) → IsUtf8 a → tokens a ≡ Some ts → has_token_at (length a + m) (side_by_side (length a) ts us) ≡ has_token_at m us
same_places a m ts us utf8 e =
    places_behind a 0 (length a + m) ts (map (moved (length a)) us) (tokens_tile a ts utf8 e) (omega arith) ∙ places_moved (length a) m us
