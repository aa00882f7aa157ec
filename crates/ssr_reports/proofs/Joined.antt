-- Texts that are written piece by piece.
use Rattle.std.proofs.Common.{◌≡◌, ℕ, List, [], ◌++◌, ◌∙◌, ap, append_assoc}

-- one piece more in front of others that stand behind each other
pub more : (a rest start t1 text : List ℕ) → t1 ≡ start ++ a → text ≡ t1 ++ rest → text ≡ start ++ (a ++ rest)
more a rest start t1 text e1 e2 = e2 ∙ (ap (λ (x : List ℕ). x ++ rest) e1 ∙ append_assoc start a rest)

-- the first one stands behind nothing
pub first : (rest start text : List ℕ) → start ≡ [] → text ≡ start ++ rest → text ≡ rest
first rest start text none is = is ∙ ap (λ (x : List ℕ). x ++ rest) none
