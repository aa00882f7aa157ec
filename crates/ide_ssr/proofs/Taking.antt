-- Matches of a list of places are taken one by one, each once.
use Rattle.std.proofs.Common.{◌≡◌, ◌≢◌, ℕ, ◌+◌, ◌<◌, ◌≤◌, List, [], ◌∷◌, ◌++◌, inl, inr, length, map, take, get_or, Option, Some, None, All, AllPairs, Contains, refl, sym, ◌∙◌, ap, subst}
use Rattle.std.specs.Prelude.{is_some, IsSome}
use Rattle.std.proofs.Math.Seq.{take_all}
use Rattle.std.proofs.lemmas.Bool.{cases_lt, false≢true}
use Rattle.std.proofs.lemmas.List.{take_more, map-append, get_or_past}
use Rattle.std.proofs.lemmas.List.Elements.{Contains-append_left, Contains-push}
use Rattle.ide_ssr_rewriting.proofs.Shared.{not_before}
use Rattle.ide_ssr.specs.declared.matches.Match.{Match}

pub within : (made : List (Option Match)) (n : ℕ) → IsSome (get_or made n None) → n < length made
within made n is =
    elim (cases_lt n (length made)) [
      | inl less ↦ less
      | inr past ↦ absurd (false≢true (sym (ap is_some (get_or_past made n None past)) ∙ is))
    ]

-- the first i of these places are taken
pub record IsTaking (places : List ℕ) (i : ℕ) (old made : List (Option Match)) (list : List Match) : Type 0 where
  pub taken : map Some list ≡ map (λ n. get_or old n None) (take i places)
  pub others : (n : ℕ) → (Contains (take i places) n → ⊥) → get_or made n None ≡ get_or old n None
  pub counted : length made ≡ length old

pub taking_none : (places : List ℕ) (made : List (Option Match)) (list : List Match) → list ≡ [] → IsTaking places 0 made made list
taking_none places made list none =
    subst (IsTaking places 0 made made) (sym none) (record { taken = refl; others = λ n out. refl; counted = refl })

still : (places : List ℕ) (i : ℕ) (old made : List (Option Match)) (list : List Match) → AllPairs (λ m n. m ≢ n) places → IsTaking places i old made list
    → i < length places → get_or made (get_or places i 0) None ≡ get_or old (get_or places i 0) None
still places i old made list once so_far less = so_far.others (get_or places i 0) (not_before places i (get_or places i 0) less refl once)

pub there_still : (places : List ℕ) (i : ℕ) (old made : List (Option Match)) (list : List Match) → AllPairs (λ m n. m ≢ n) places
    → All (λ n. IsSome (get_or old n None)) places → IsTaking places i old made list → i < length places
    → IsSome (get_or made (get_or places i 0) None)
there_still places i old made list once there so_far less =
    ap is_some (still places i old made list once so_far less) ∙ there i 0 less

pub taking_more : (places : List ℕ) (i : ℕ) (old made new : List (Option Match)) (list longer : List Match) (m : Match) → AllPairs (λ m n. m ≢ n) places
    → IsTaking places i old made list → i < length places → get_or made (get_or places i 0) None ≡ Some m
    → ((j : ℕ) → j ≢ get_or places i 0 → get_or new j None ≡ get_or made j None) → length new ≡ length made → longer ≡ list ++ m ∷ []
    → IsTaking places (i + 1) old new longer
taking_more places i old made new list longer m once so_far less is left counted more =
    let place = get_or places i 0 in
    let longer_places : take (i + 1) places ≡ take i places ++ place ∷ [] = take_more places i 0 less in
    record {
      taken =
          ap (map Some) more
          ∙ map-append Some list (m ∷ [])
          ∙ ap (λ l. l ++ Some m ∷ []) so_far.taken
          ∙ ap (λ o. map (λ n. get_or old n None) (take i places) ++ o ∷ []) (sym is ∙ still places i old made list once so_far less)
          ∙ sym (map-append (λ n. get_or old n None) (take i places) (place ∷ []))
          ∙ ap (map (λ n. get_or old n None)) (sym longer_places);
      others = λ n out.
          let away : Contains (take i places ++ place ∷ []) n → ⊥ = subst (λ ps. Contains ps n → ⊥) longer_places out in
          left n (λ same. away (subst (Contains (take i places ++ place ∷ [])) (sym same) (Contains-push (take i places) place)))
          ∙ so_far.others n (λ at. away (Contains-append_left (take i places) (place ∷ []) n at));
      counted = counted ∙ so_far.counted;
    }

pub taken_all : (places : List ℕ) (i : ℕ) (old made : List (Option Match)) (list : List Match) → IsTaking places i old made list → length places ≤ i
    → map Some list ≡ map (λ n. get_or old n None) places
taken_all places i old made list so_far past = so_far.taken ∙ ap (map (λ n. get_or old n None)) (take_all i places past)

pub left_all : (places : List ℕ) (i : ℕ) (old made : List (Option Match)) (list : List Match) → IsTaking places i old made list → length places ≤ i
    → (n : ℕ) → (Contains places n → ⊥) → get_or made n None ≡ get_or old n None
left_all places i old made list so_far past n out = so_far.others n (subst (λ ps. Contains ps n → ⊥) (sym (take_all i places past)) out)
