-- The comments that a match keeps, one token more at a time.
use Rattle.std.proofs.Common.{◌≡◌, ℕ, ◌+◌, ◌-◌, ◌≤◌, Bool, true, false, cond, List, [], ◌∷◌, ◌++◌, map, filter, sym, ◌∙◌, ap, arith}
use Rattle.std.specs.List.{range_with_len}
use Rattle.std.proofs.lemmas.List.{append-nil}
use Rattle.std.proofs.lemmas.List.FromFn.{filter_of_map_range_with_len_more}
use Rattle.ssr_syntax_tree.specs.declared.number.TokenNo.{TokenNo}

-- the tokens from `first` up to before `next` that pass
abbrev pub passed : (TokenNo → Bool) → ℕ → ℕ → List TokenNo
passed p first next = filter p (map (λ t. record { 0 = t }) (range_with_len first (next - first)))

passed-more : (p : TokenNo → Bool) (first next : ℕ) → first ≤ next
    → passed p first (next + 1) ≡ passed p first next ++ cond (p (record { 0 = next })) (record { 0 = next } ∷ []) []
passed-more p first next le =
    let more : next + 1 - first ≡ next - first + 1 = omega arith in
    let at : first + (next - first) ≡ next = omega arith in
    ap (λ (n : ℕ). filter p (map (λ t. record { 0 = t }) (range_with_len first n))) more
    ∙ filter_of_map_range_with_len_more p (λ t. record { 0 = t }) first (next - first) next at

pub passed-taken : (p : TokenNo → Bool) (first next : ℕ) (old new : List TokenNo) → first ≤ next → old ≡ passed p first next
    → p (record { 0 = next }) ≡ true → new ≡ old ++ record { 0 = next } ∷ [] → new ≡ passed p first (next + 1)
passed-taken p first next old new le is pass e =
    e ∙ (ap (λ (ts : List TokenNo). ts ++ record { 0 = next } ∷ []) is
    ∙ (ap (λ (b : Bool). passed p first next ++ cond b (record { 0 = next } ∷ []) []) (sym pass) ∙ sym (passed-more p first next le)))

pub passed-left : (p : TokenNo → Bool) (first next : ℕ) (old new : List TokenNo) → first ≤ next → old ≡ passed p first next
    → p (record { 0 = next }) ≡ false → new ≡ old → new ≡ passed p first (next + 1)
passed-left p first next old new le is fail e =
    e ∙ (is ∙ (sym (append-nil (passed p first next))
    ∙ (ap (λ (b : Bool). passed p first next ++ cond b (record { 0 = next } ∷ []) []) (sym fail) ∙ sym (passed-more p first next le))))
