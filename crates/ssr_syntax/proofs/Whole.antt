-- The reading of all tokens.
use Rattle.std.proofs.Common.{◌≡◌, ℕ, ◌+◌, ◌≤◌, List, [], ◌∷◌, ◌++◌, Ok, Err, ◌⊎◌, inl, inr, refl, sym, ap, subst, ◌∙◌, arith}
use Rattle.std.proofs.lemmas.List.{append-nil}
use Rattle.ssr_syntax_kinds.specs.declared.reach.Reach.{Reach}
use Rattle.ssr_syntax_forms.specs.declared.tokens.Token.{Token}
use Rattle.ssr_syntax_types.specs.declared.goals.Goal.{Goal}
use Rattle.ssr_syntax_forms.specs.declared.fault.Fault.TheVariants as faults
use Rattle.ssr_syntax_forms.specs.Trees.{Forest, done, spell}
use Rattle.ssr_syntax_forms.proofs.Shared.{IsShallow, FitsGoal, at_some_level, bind_ok, ok_one, cut_goals, lower_ranked, complete_goal, goals_spell, goals_sound}
use Rattle.ssr_syntax_forms.specs.Fitting.{Fits}
use Rattle.ssr_syntax_forms.specs.Forms.{SoFar, so_far, ◌>>=◌}
use Rattle.ssr_syntax_forms.specs.Levels.{read_goal}
use Rattle.ssr_syntax.specs.Grammar.{grammar_of}
use Rattle.ssr_syntax.specs.Reading.{most_high, most_levels, whole, reading}
use Rattle.ssr_syntax.proofs.Checks.{tables, goal_keeps, goal_covered, goal_ranked, goal_may_end}

whole_ok : (r : SoFar) (rest : List Token) (z : Forest) → r.rest ≡ rest → whole (so_far r.made rest) ≡ Ok z → (rest ≡ []) × (r.made ≡ z)
whole_ok r [] z d e = (refl, cc)
whole_ok r (t ∷ ts) z d e = cc

-- what is read fits its goal, and spells the tokens
pub reading_fits : (reach : Reach) (goal : Goal) (ts : List Token) (z : Forest) → reading reach goal ts ≡ Ok z → FitsGoal (grammar_of reach) most_levels goal z ts []
unfolding reading
reading_fits reach goal ts z e =
    let m = bind_ok (read_goal (grammar_of reach) most_levels goal ts) whole z e in
    let k = goals_sound (grammar_of reach) most_levels goal ts m.0 m.1 in
    let w = whole_ok m.0 m.0.rest z refl m.2 in
    let all : k.0 ≡ ts = sym (append-nil k.0) ∙ ap (λ v. k.0 ++ v) (sym w.0) ∙ sym k.1 in
    subst (λ v. FitsGoal (grammar_of reach) most_levels goal z v []) all
    (subst (λ v. FitsGoal (grammar_of reach) most_levels goal z k.0 v) w.0
    (subst (λ v. FitsGoal (grammar_of reach) most_levels goal v k.0 m.0.rest) w.1 k.2))

pub reading_spells : (reach : Reach) (goal : Goal) (ts : List Token) (z : Forest) → reading reach goal ts ≡ Ok z → spell z ≡ ts
reading_spells reach goal ts z e = goals_spell (grammar_of reach) most_levels goal z ts [] (reading_fits reach goal ts z e)

-- ** What fits is read.

at_level : (reach : Reach) (n : ℕ) (goal : Goal) (ts : List Token) (z : Forest) → FitsGoal (grammar_of reach) n goal z ts []
    → read_goal (grammar_of reach) n goal ts ≡ Ok (so_far z [])
at_level reach n goal ts z f =
    subst (λ w. read_goal (grammar_of reach) n goal w ≡ Ok (so_far z [])) (append-nil ts)
    (complete_goal (tables reach) (grammar_of reach) (goal_keeps reach) n goal z ts [] f (goal_may_end reach goal))

-- what is read at a number of levels is read at each greater one
above : (reach : Reach) (n m : ℕ) (goal : Goal) (ts : List Token) (z : Forest) → n ≤ m → FitsGoal (grammar_of reach) n goal z ts []
    → read_goal (grammar_of reach) m goal ts ≡ Ok (so_far z [])
above reach n m goal ts z le f =
    elim (cut_goals (grammar_of reach) n m le goal ts) [
      | inl e ↦ absurd (cc (at_level reach n goal ts z f, e))
      | inr e ↦ sym e ∙ at_level reach n goal ts z f
    ]

-- at most one forest fits
pub one_fits : (reach : Reach) (goal : Goal) (ts : List Token) (y z : Forest) → Fits (grammar_of reach) (grammar_of reach goal) done y ts []
    → Fits (grammar_of reach) (grammar_of reach goal) done z ts [] → y ≡ z
one_fits reach goal ts y z f g =
    let a = at_some_level (grammar_of reach) goal y ts [] f in
    let b = at_some_level (grammar_of reach) goal z ts [] g in
    ap (λ r. r.made)
    (ok_one (sym (above reach a.0 (a.0 + b.0) goal ts y (omega arith) a.1) ∙ above reach b.0 (a.0 + b.0) goal ts z (omega arith) b.1))

-- the levels that are read are enough for trees that aren't too deep
enough : (reach : Reach) (goal : Goal) (ts : List Token) (z : Forest) (n : ℕ) → FitsGoal (grammar_of reach) n goal z ts [] → IsShallow most_high z
    → FitsGoal (grammar_of reach) most_levels goal z ts []
enough reach goal ts z n f low =
    lower_ranked (grammar_of reach) (tables reach).rank (tables reach).ranks (goal_ranked reach) (goal_covered reach) n most_levels most_high goal z ts []
    (omega (arith, goal_ranked reach goal)) f low

complete_at : (reach : Reach) (goal : Goal) (ts : List Token) (z : Forest) (n : ℕ) → FitsGoal (grammar_of reach) n goal z ts []
    → (reading reach goal ts ≡ Ok z) ⊎ ((reading reach goal ts ≡ Err faults.TooDeep) × (IsShallow most_high z → ⊥))
unfolding reading
complete_at reach goal ts z n f =
    elim (cut_goals (grammar_of reach) most_levels (n + most_levels) (omega arith) goal ts) [
      | inl e ↦ inr (
        ap (λ w. w >>= whole) e,
        λ low. cc (at_level reach most_levels goal ts z (enough reach goal ts z n f low), e),
      )
      | inr e ↦ inl (ap (λ w. w >>= whole) (e ∙ above reach n (n + most_levels) goal ts z (omega arith) f))
    ]

-- a forest that fits is read, unless it is too deep
pub reading_complete : (reach : Reach) (goal : Goal) (ts : List Token) (z : Forest) → Fits (grammar_of reach) (grammar_of reach goal) done z ts []
    → (reading reach goal ts ≡ Ok z) ⊎ ((reading reach goal ts ≡ Err faults.TooDeep) × (IsShallow most_high z → ⊥))
reading_complete reach goal ts z f = let a = at_some_level (grammar_of reach) goal z ts [] f in complete_at reach goal ts z a.0 a.1
