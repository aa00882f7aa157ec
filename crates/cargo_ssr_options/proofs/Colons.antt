-- Where a text is cut at its last colon.
use Rattle.std.proofs.Common.{ℕ, ◌≡◌, List, ◌∷◌, ◌++◌, take, drop, sym, ◌∙◌, ap}
use Rattle.std.proofs.lemmas.List.{take-append-drop}
use Rattle.std.specs.Str.Pattern.{RFindsChar, SplitsAroundMatch}

pub around_colon : (s front back : List ℕ) → SplitsAroundMatch (RFindsChar 58) s front back → s ≡ front ++ (58 ∷ back)
unfolding lib.Utf8.encode
around_colon s front back h =
    sym (take-append-drop h.0 s) ∙ ap (λ rest. take h.0 s ++ rest) (h.2.1.split) ∙ ap (λ rest. take h.0 s ++ (58 ∷ rest)) (sym h.4) ∙ ap (λ first. first ++ (58 ∷ back)) (sym h.3)
