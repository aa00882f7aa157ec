-- Texts without what stands in front of them.
use Rattle.std.proofs.Common.{◌≡◌, ℕ, eqb, true, false, List, length, drop, Option, Some, None, MatchOption, Bor, subst, ap, sym, ◌∙◌}
use Rattle.std.specs.List.{starts_with}
use Rattle.std.specs.Str.{IsCharBoundary}
use Rattle.std.specs.Str.Pattern.{FindsTextPrefix, StripsPrefix}
use Rattle.std.proofs.lemmas.Str.Pattern.{starts_text}

-- what `strip_prefix` at a text leaves of another one
pub stripped : (front text : List ℕ) (r : Option (Bor (List ℕ))) → MatchOption r (FindsTextPrefix front text None) (λ x. StripsPrefix (FindsTextPrefix front) text x.now)
    → MatchOption r (starts_with eqb text front ≡ false) (λ x. (starts_with eqb text front ≡ true) × (x.now ≡ drop (length front) text))
stripped front text None h = sym (starts_text false front text h)
stripped front text (Some x) h =
    let ends : IsCharBoundary text h.0 = subst (λ k. IsCharBoundary text k) (sym h.1.0) h.1.2 in
    (sym (starts_text true front text (h.0, h.1, ends)), h.2 ∙ ap (λ k. drop k text) h.1.0)
