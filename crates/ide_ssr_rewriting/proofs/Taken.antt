-- Texts that are taken for a list, one place more at a time.
use Rattle.std.proofs.Common.{◌≡◌, ℕ, ◌+◌, ◌<◌, ◌≢◌, List, [], ◌∷◌, ◌++◌, get_or, set, take, length, map, Option, None, sym, ◌∙◌, ap, subst, arith}
use Rattle.std.specs.Prelude.{AllPairs, Contains}
use Rattle.std.proofs.lemmas.List.{get_or-set_other, get_or-take, get_or_default, length-take, map-append, take_more}
use Rattle.std.proofs.lemmas.List.Elements.{Contains-append_left, Contains-push}
use Rattle.ide_ssr_nesting.specs.Holding.{Kept}
use Rattle.ide_ssr_rewriting.specs.Clashes.{Rewrite}
use Rattle.ide_ssr_rewriting.specs.Edits.{range_at, list_at}
use Rattle.ide_ssr_rewriting.specs.Private.Edits.{text_in}

-- a place doesn't stand before itself
pub not_before : (places : List ℕ) (i p : ℕ) → i < length places → p ≡ get_or places i 0 → AllPairs ◌≢◌ places → Contains (take i places) p → ⊥
not_before places i p lt is once before =
    let k : ℕ = before.0 in
    let first : k < i = omega (arith, before.1, length-take i places) in
    once k i p first lt (sym (get_or-take i places k p first) ∙ (before.2 ∙ (is ∙ get_or_default places i 0 p lt)))

pub list-more : (kept : Kept) (places : List ℕ) (i p : ℕ) (old cur : List (Option (List ℕ))) (list new : List Rewrite) (r : Rewrite) (text : Option (List ℕ))
    → i < length places → p ≡ get_or places i 0 → AllPairs ◌≢◌ places → list ≡ list_at kept (text_in old) (take i places)
    → ((n : ℕ) → (Contains (take i places) n → ⊥) → text_in cur n ≡ text_in old n)
    → get_or cur p None ≡ text → r.range ≡ range_at kept p → r.text ≡ text → new ≡ list ++ r ∷ []
    → new ≡ list_at kept (text_in old) (take (i + 1) places)
list-more kept places i p old cur list new r text lt is once so_far others taken range known made =
    let stands : ℕ → Rewrite = λ n. record { range = range_at kept n; text = text_in old n } in
    let here : r.text ≡ text_in old p = known ∙ (sym taken ∙ others p (not_before places i p lt is once)) in
    let one : r ≡ stands p = ap (λ (text : Option (List ℕ)). record { range = r.range; text = text }) here ∙ ap (λ range. record { range = range; text = text_in old p }) range in
    made
    ∙ (ap (λ (list : List Rewrite). list ++ r ∷ []) so_far
    ∙ (ap (λ (r : Rewrite). list_at kept (text_in old) (take i places) ++ r ∷ []) (one ∙ ap stands is)
    ∙ (sym (map-append stands (take i places) (get_or places i 0 ∷ []))
    ∙ ap (map stands) (sym (take_more places i 0 lt)))))

pub others-more : (places : List ℕ) (i p : ℕ) (old cur : List (Option (List ℕ))) (new : Option (List ℕ)) → i < length places → p ≡ get_or places i 0
    → ((n : ℕ) → (Contains (take i places) n → ⊥) → text_in cur n ≡ text_in old n)
    → (n : ℕ) → (Contains (take (i + 1) places) n → ⊥) → text_in (set cur p new) n ≡ text_in old n
others-more places i p old cur new lt is others n absent =
    let more = take_more places i 0 lt in
    let other : n ≢ p = λ e. absent (subst (λ (xs : List ℕ). Contains xs n) (sym more)
    (subst (λ (q : ℕ). Contains (take i places ++ q ∷ []) n) (e ∙ is) (Contains-push (take i places) n))) in
    get_or-set_other cur p n new None other
    ∙ others n (λ before. absent (subst (λ (xs : List ℕ). Contains xs n) (sym more) (Contains-append_left (take i places) (get_or places i 0 ∷ []) n before)))
