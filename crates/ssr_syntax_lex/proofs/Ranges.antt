-- Ranges with the same ends are the same.
use Rattle.std.proofs.Common.{◌≡◌, ℕ, ◌≤◌, ap, subst}
use Rattle.std.specs.Coded.{le_prop}
use Rattle.ssr_syntax_kinds.specs.declared.range.TextRange.{TextRange}

made : (start end : ℕ) → start ≤ end → TextRange
made start end ordered = record { start = start; end = end; ordered = ordered }

same_end : (start e f : ℕ) (o : start ≤ e) → e ≡ f → (p : start ≤ f) → made start e o ≡ made start f p
unfolding made
same_end start e f o same = subst (λ (x : ℕ). (p : start ≤ x) → made start e o ≡ made start x p) same (λ p. ap (made start e) (le_prop o p))

same_ends : (s t e f : ℕ) (o : s ≤ e) → s ≡ t → e ≡ f → (p : t ≤ f) → made s e o ≡ made t f p
unfolding made
same_ends s t e f o starts ends = subst (λ (x : ℕ). (p : x ≤ f) → made s e o ≡ made x f p) starts (same_end s e f o ends)

-- a range is known by its ends
pub TextRange-same : (a b : TextRange) → a.start ≡ b.start → a.end ≡ b.end → a ≡ b
unfolding made
TextRange-same a b starts ends = same_ends a.start b.start a.end b.end a.ordered starts ends b.ordered
