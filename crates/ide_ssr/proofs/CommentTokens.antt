-- The comment at a position, and what stands behind its prefix.
use Rattle.std.proofs.Common.{◌≡◌, ℕ, ◌+◌, ◌<◌, ◌≤◌, ◌==◌, Bool, true, false, cond, List, ◌∷◌, length, map, drop, get_or, Option, Some, None, Bor, refl, sym, ◌∙◌, ap}
use Rattle.std.specs.Prelude.{MatchOption}
use Rattle.std.specs.List.{starts_with}
use Rattle.std.specs.Option.{option_copied}
use Rattle.std.specs.Str.Pattern.{FindsTextPrefix, LacksTextAt, StripsPrefix}
use Rattle.std.proofs.lemmas.Bool.Decides.{Decides-eqb}
use Rattle.std.proofs.lemmas.List.{drop_more, drop_all}
use Rattle.std.proofs.lemmas.Slice.Eq.{starts_is}
use Rattle.ide_ssr.specs.FromComment.{behind, behind_first}

not_true : (b : Bool) → (b ≡ true → ⊥) → b ≡ false
not_true true never = absurd (never refl)
not_true false never = refl

pub behind_is : (prefix text : List ℕ) (rest : Option (Bor (List ℕ))) → MatchOption rest (LacksTextAt prefix text 0) (λ x. StripsPrefix (FindsTextPrefix prefix) text x.now)
    → option_copied rest ≡ behind prefix text
unfolding behind
behind_is prefix text None lacks =
    sym (ap (λ (b : Bool). cond b (Some (drop (length prefix) text)) None)
    (not_true (starts_with ◌==◌ text prefix) (λ yes. lacks (drop (length prefix) text) ((starts_is Decides-eqb text prefix (starts_with ◌==◌ text prefix) refl).0 yes))))
behind_is prefix text (Some rest) strips =
    let yes = (starts_is Decides-eqb text prefix (starts_with ◌==◌ text prefix) refl).1 (drop strips.0 text) strips.1.1 in
    ap Some (strips.2 ∙ ap (λ (k : ℕ). drop k text) strips.1.0) ∙ sym (ap (λ (b : Bool). cond b (Some (drop (length prefix) text)) None) yes)

-- one prefix after another is tried
more : (prefix : List ℕ) (others : List (List ℕ)) (text : List ℕ) → None ≡ behind prefix text → behind_first (prefix ∷ others) text ≡ behind_first others text
unfolding behind behind_first
more prefix others text none = by (starts_with ◌==◌ text prefix) none where
  by : (b : Bool) → None ≡ cond b (Some (drop (length prefix) text)) None → cond b (Some (drop (length prefix) text)) (behind_first others text) ≡ behind_first others text
  by true none = absurd (let wrong : None ≡ Some (drop (length prefix) text) = none in cc)
  by false none = refl

here : (prefix : List ℕ) (others : List (List ℕ)) (text rest : List ℕ) → Some rest ≡ behind prefix text → Some rest ≡ behind_first (prefix ∷ others) text
unfolding behind behind_first
here prefix others text rest is = by (starts_with ◌==◌ text prefix) is where
  by : (b : Bool) → Some rest ≡ cond b (Some (drop (length prefix) text)) None → Some rest ≡ cond b (Some (drop (length prefix) text)) (behind_first others text)
  by true is = is
  by false is = absurd (let wrong : Some rest ≡ None = is in cc)

pub behind_more : (all : List (Bor (List ℕ))) (i : ℕ) (d : Bor (List ℕ)) (text : List ℕ) → i < length all → None ≡ behind (get_or all i d).now text
    → behind_first (map (λ (prefix : Bor (List ℕ)). prefix.now) (drop (i + 1) all)) text ≡ behind_first (map (λ (prefix : Bor (List ℕ)). prefix.now) (drop i all)) text
behind_more all i d text within none =
    sym (more (get_or all i d).now (map (λ (prefix : Bor (List ℕ)). prefix.now) (drop (i + 1) all)) text none)
    ∙ ap (λ (ps : List (Bor (List ℕ))). behind_first (map (λ (prefix : Bor (List ℕ)). prefix.now) ps) text) (sym (drop_more all i d within))

pub behind_here : (all : List (Bor (List ℕ))) (i : ℕ) (d : Bor (List ℕ)) (text rest : List ℕ) → i < length all → Some rest ≡ behind (get_or all i d).now text
    → Some rest ≡ behind_first (map (λ (prefix : Bor (List ℕ)). prefix.now) (drop i all)) text
behind_here all i d text rest within found =
    here (get_or all i d).now (map (λ (prefix : Bor (List ℕ)). prefix.now) (drop (i + 1) all)) text rest found
    ∙ ap (λ (ps : List (Bor (List ℕ))). behind_first (map (λ (prefix : Bor (List ℕ)). prefix.now) ps) text) (sym (drop_more all i d within))

pub behind_none : (all : List (Bor (List ℕ))) (i : ℕ) (text : List ℕ) → length all ≤ i → None ≡ behind_first (map (λ (prefix : Bor (List ℕ)). prefix.now) (drop i all)) text
unfolding behind_first
behind_none all i text past = rw (drop_all i all past) refl
