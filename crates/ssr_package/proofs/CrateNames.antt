-- Names of crates, part by part.
use Rattle.std.proofs.Common.{◌≡◌, ◌≢◌, ℕ, suc, ◌<◌, List, [], ◌∷◌, ◌++◌, length, get_or, Option, Some, None, MatchOption, Bor, append_assoc, refl, ap, sym, ◌∙◌, lit<, arith}
use Rattle.std.proofs.lemmas.Bool.{ne_eqb}
use Rattle.std.proofs.lemmas.List.{map-append}
use Rattle.std.proofs.lemmas.Str.Pattern.{IsSplitOnceResult, split_parts}
use Rattle.ssr_package.specs.Crates.{underscored, crate_name}

-- a text without `-` stays
stays : (bs : List ℕ) → ((i : ℕ) → i < length bs → get_or bs i 0 ≢ 45) → crate_name bs ≡ bs
stays [] h = refl
stays (b ∷ bs) h =
    let rest : crate_name bs ≡ bs = stays bs (λ i below. h (suc i) (omega arith)) in
    rw (ne_eqb b 45 (h 0 (omega arith)), rest) refl

-- what `split_once` at a `-` says of the name
pub underscored_once : (bs : List ℕ) (r : Option (Bor (List ℕ) × Bor (List ℕ))) → IsSplitOnceResult 45 bs r → MatchOption r (crate_name bs ≡ bs) (λ x. crate_name bs ≡ x.0.now ++ 95 ∷ crate_name x.1.now)
underscored_once bs None h = stays bs (split_parts 45 bs None h (lit< tt))
underscored_once bs (Some x) h =
    let found = split_parts 45 bs (Some x) h (lit< tt) in
    ap crate_name found.0 ∙ (map-append underscored x.0.now (45 ∷ x.1.now) ∙ ap (λ front. front ++ 95 ∷ crate_name x.1.now) (stays x.0.now found.1))

-- a name with one part more
pub one_part : (name part after rest target written : List ℕ) → crate_name rest ≡ part ++ 95 ∷ crate_name after → written ≡ (name ++ part) ++ 95 ∷ [] → name ++ crate_name rest ≡ crate_name target
    → written ++ crate_name after ≡ crate_name target
one_part name part after rest target written cut is so_far =
    ap (λ front. front ++ crate_name after) is
    ∙ (append_assoc (name ++ part) (95 ∷ []) (crate_name after) ∙ (append_assoc name part (95 ∷ crate_name after) ∙ (ap (λ r. name ++ r) (sym cut) ∙ so_far)))
