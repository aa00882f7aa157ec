-- Tokens that tile a text.
use Rattle.std.proofs.Common.{◌≡◌, ℕ, ◌+◌, ◌-◌, ◌≤◌, List, [], ◌∷◌, ◌++◌, length, drop, refl, sym, ◌∙◌, ap, subst, arith}
use Rattle.std.specs.Prelude.{IsCharBoundary}
use Rattle.std.specs.List.{AllByRecursion}
use Rattle.std.specs.Str.{IsUtf8}
use Rattle.std.proofs.lemmas.List.{length-take, length-drop}
use Rattle.std.proofs.lemmas.Str.{IsCharBoundary-end, IsUtf8-between}
use Rattle.ssr_syntax_lex.specs.declared.tokens.RawToken.{RawToken}
use Rattle.ssr_syntax_lex.specs.Tokens.{token_text, spell, TilesFrom}
use Rattle.ssr_syntax_tree.specs.Syntax as plain
use Rattle.ssr_syntax_rows.specs.Solid.{pieces}

pub tiles_within : (text : List ℕ) (start : ℕ) (raw : List RawToken) → TilesFrom text start raw → start ≤ length text
tiles_within text start [] h = omega arith
tiles_within text start (t ∷ ts) h = omega (arith, h.1, tiles_within text t.range.end ts h.3)

pub boundary : (text : List ℕ) (start : ℕ) (raw : List RawToken) → TilesFrom text start raw → IsCharBoundary text start
boundary text start [] h = subst (IsCharBoundary text) (sym h) (IsCharBoundary-end text)
boundary text start (t ∷ ts) h = h.2

pub length-token : (text : List ℕ) (t : RawToken) (start : ℕ) → t.range.start ≡ start → t.range.end ≤ length text
    → length (token_text text t) ≡ t.range.end - start
length-token text t start e le =
    length-take (t.range.end - t.range.start) (drop t.range.start text)
    ∙ omega (arith, length-drop t.range.start text)

pub tiled_texts : (text : List ℕ) (start : ℕ) (raw : List RawToken) → IsUtf8 text → TilesFrom text start raw
    → AllByRecursion (λ token. IsUtf8 token.text) (pieces text raw)
tiled_texts text start [] utf8 h = tt
tiled_texts text start (t ∷ ts) utf8 h = (
  IsUtf8-between text t.range.start t.range.end utf8 (omega (arith, h.0, h.1)) (subst (IsCharBoundary text) (sym h.0) h.2) (boundary text t.range.end ts h.3),
  tiled_texts text t.range.end ts utf8 h.3,
)

pub spelled-pieces : (text : List ℕ) (raw : List RawToken) → plain.spelled (pieces text raw) ≡ spell text raw
spelled-pieces text [] = refl
spelled-pieces text (t ∷ ts) = ap (λ l. token_text text t ++ l) (spelled-pieces text ts)

-- 32 bits count the tokens of a short text
pub tiles_count : (text : List ℕ) (start : ℕ) (raw : List RawToken) → TilesFrom text start raw → start + length raw ≤ length text
tiles_count text start [] h = omega (arith, h)
tiles_count text start (t ∷ ts) h = omega (arith, h.1, tiles_count text t.range.end ts h.3)
