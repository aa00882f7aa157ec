-- Tokens by their place: so many ahead, or the last one.
use Rattle.std.proofs.Common.{◌≡◌, ℕ, zero, suc, ◌+◌, ◌-◌, ◌<◌, ◌≤◌, not, ◌&&◌, List, [], ◌∷◌, ◌++◌, length, slice_get, Some, refl, sym, ap, ◌∙◌, arith}
use Rattle.std.proofs.Math.Bool.{and-true, and_assoc, or-false}
use Rattle.ssr_syntax_kinds.specs.declared.kinds.SyntaxKind.{SyntaxKind}
use Rattle.ssr_syntax_forms.specs.declared.tokens.Token.{Token}
use Rattle.ssr_syntax_forms.specs.Kinds.{mem}
use Rattle.ssr_syntax_forms.specs.Forms.{are_next, holds, last_isnt, next, passes}
use Rattle.ssr_syntax_forms.specs.Private.Ahead.{behind_next, nth}

-- ** The token so many ahead, with some of them passed.
nth_suc : (n : ℕ) (ts : List Token) (m : ℕ) → m ≡ suc n → nth m ts ≡ nth n (behind_next ts)
unfolding nth
nth_suc n ts m e = rw e refl

nth_zero : (ts : List Token) (m : ℕ) → m ≡ zero → nth m ts ≡ next ts
unfolding nth
nth_zero ts m e = rw e refl

nth_same : (n m : ℕ) (ts : List Token) → n ≡ m → nth n ts ≡ nth m ts
nth_same n m ts e = rw e refl

pub nth_start : (total : ℕ) (ts : List Token) → nth total ts ≡ nth (total - 0) ts
nth_start total ts = nth_same total (total - 0) ts (omega arith)

pub nth_step : (total passed : ℕ) (ts : List Token) → passed < total
    → nth (total - passed) ts ≡ nth (total - (passed + 1)) (behind_next ts)
nth_step total passed ts lt = nth_suc (total - (passed + 1)) ts (total - passed) (omega arith)

pub nth_end : (total passed : ℕ) (ts : List Token) → total ≤ passed → nth (total - passed) ts ≡ next ts
nth_end total passed ts le = nth_zero ts (total - passed) (omega (arith, le))

-- ** Strings, from their first set on or but for their last one.
next_more : (ks : List SyntaxKind) (string : List (List SyntaxKind)) (ts : List Token)
    → are_next (ks ∷ string) ts ≡ (mem (next ts) ks && are_next string (behind_next ts))
next_more ks string [] = refl
next_more ks string (t ∷ ts) = refl

next_push : (string : List (List SyntaxKind)) (ks : List SyntaxKind) (ts : List Token)
    → are_next (string ++ ks ∷ []) ts ≡ (are_next string ts && mem (nth (length string) ts) ks)
unfolding nth
next_push [] ks ts = next_more ks [] ts ∙ and-true (mem (next ts) ks)
next_push (ls ∷ string) ks ts =
    let us = behind_next ts in
    next_more ls (string ++ ks ∷ []) ts
    ∙ ap (λ b. mem (next ts) ls && b) (next_push string ks us)
    ∙ sym (ap (λ b. b && mem (nth (length string) us) ks) (next_more ls string ts)
    ∙ and_assoc (mem (next ts) ls) (are_next string us) (mem (nth (length string) us) ks))

-- a string with a set more
passes_push : (string : List (List SyntaxKind)) (ks : List SyntaxKind) (ts : List Token)
    → passes ((string ++ ks ∷ []) ∷ []) ts ≡ (passes (string ∷ []) ts && mem (nth (length string) ts) ks)
passes_push string ks ts =
    or-false (are_next (string ++ ks ∷ []) ts) ∙ next_push string ks ts
    ∙ sym (ap (λ b. b && mem (nth (length string) ts) ks) (or-false (are_next string ts)))

pub two_next : (ks ls : List SyntaxKind) (ts : List Token)
    → passes ((ks ∷ ls ∷ []) ∷ []) ts ≡ (passes ((ks ∷ []) ∷ []) ts && mem (nth 1 ts) ls)
two_next ks ls ts = passes_push (ks ∷ []) ls ts

pub three_next : (ks ls ms : List SyntaxKind) (ts : List Token)
    → passes ((ks ∷ ls ∷ ms ∷ []) ∷ []) ts ≡ (passes ((ks ∷ ls ∷ []) ∷ []) ts && mem (nth 2 ts) ms)
three_next ks ls ms ts = passes_push (ks ∷ ls ∷ []) ms ts

pub four_next : (ks ls ms ns : List SyntaxKind) (ts : List Token)
    → passes ((ks ∷ ls ∷ ms ∷ ns ∷ []) ∷ []) ts ≡ (passes ((ks ∷ ls ∷ ms ∷ []) ∷ []) ts && mem (nth 3 ts) ns)
four_next ks ls ms ns ts = passes_push (ks ∷ ls ∷ ms ∷ []) ns ts

-- ** The last token tells it.
last_at : (ks : List SyntaxKind) (ts : List Token) (n : ℕ) (t : Token) → n + 1 ≡ length ts → slice_get ts n ≡ Some t
    → holds (last_isnt ks) ts ≡ not (mem t.kind ks)
last_at ks [] n t e is = cc
last_at ks (u ∷ []) zero t e is = cc
last_at ks (u ∷ []) (suc n) t e is = cc
last_at ks (u ∷ v ∷ ts) zero t e is = absurd (omega (arith, e))
last_at ks (u ∷ v ∷ ts) (suc n) t e is = last_at ks (v ∷ ts) n t (omega (arith, e)) is

pub last_told : (ks : List SyntaxKind) (ts : List Token) (t : Token) → slice_get ts (length ts - 1) ≡ Some t
    → holds (last_isnt ks) ts ≡ not (mem t.kind ks)
last_told ks [] t is = cc
last_told ks (u ∷ ts) t is = last_at ks (u ∷ ts) (length (u ∷ ts) - 1) t (omega arith) is
