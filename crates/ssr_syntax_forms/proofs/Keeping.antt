-- The claims on goals hold at every number of levels, if each goal's form keeps them.
use Rattle.std.proofs.Common.{◌≡◌, ℕ, zero, suc, true, false, not, ◌||◌, ◌&&◌, inl, inr}
use Rattle.std.proofs.lemmas.Bool.{and_parts, not-true, or_cases}
use Rattle.ssr_syntax_forms.specs.Trees.{done}
use Rattle.ssr_syntax_forms.specs.Forms.{Productions}
use Rattle.ssr_syntax_forms.specs.Levels.{read_goal}
use Rattle.ssr_syntax_forms.proofs.Nested.{FitsGoal}
use Rattle.ssr_syntax_forms.proofs.Check.{Tables, empty, firsts, decides, keeps, subset}
use Rattle.ssr_syntax_forms.proofs.Members.{subset_mem}
use Rattle.ssr_syntax_forms.proofs.Starts.{Claims, no_tokens, first_token}
use Rattle.ssr_syntax_forms.proofs.Completeness.{ReadBelow, complete}

-- what is kept of a goal
abbrev Kept : {Goal : Type 0} → Tables Goal → Productions Goal → Goal → Type 0
Kept t grammar goal =
    (decides t (grammar goal) (t.follow goal) ≡ true) × ((t.is_empty goal || not (empty t (grammar goal))) ≡ true)
    × (subset (firsts t (grammar goal)) (t.first goal) ≡ true)

abbrev KeepsAll : {Goal : Type 0} → Tables Goal → Productions Goal → Type 0
KeepsAll {Goal = Goal} t grammar = (goal : Goal) → keeps t goal (grammar goal) ≡ true

kept : {Goal : Type 0} (t : Tables Goal) (grammar : Productions Goal) → KeepsAll t grammar → (goal : Goal) → Kept t grammar goal
kept t grammar k goal =
    let a = and_parts (decides t (grammar goal) (t.follow goal))
    ((t.is_empty goal || not (empty t (grammar goal))) && subset (firsts t (grammar goal)) (t.first goal)) (k goal) in
    let b = and_parts (t.is_empty goal || not (empty t (grammar goal))) (subset (firsts t (grammar goal)) (t.first goal)) a.1 in
    (a.0, b.0, b.1)

pub claims_hold : {Goal : Type 0} (t : Tables Goal) (grammar : Productions Goal) → KeepsAll t grammar → (n : ℕ) → Claims t (FitsGoal grammar n)
unfolding FitsGoal
claims_hold t grammar k zero = record {
  empty = λ goal y us rest f e. absurd f;
  first = λ goal y us rest v vs f e. absurd f;
}
claims_hold t grammar k (suc n) =
    let below = claims_hold t grammar k n in
    let fits = FitsGoal grammar n in
    record {
      empty = λ goal y us rest f e.
          elim (or_cases (t.is_empty goal) (not (empty t (grammar goal))) (kept t grammar k goal).1) [
            | inl is ↦ is
            | inr w ↦ absurd (cc (not-true (empty t (grammar goal)) w, no_tokens t fits below (grammar goal) done y us rest f e))
          ];
      first = λ goal y us rest v vs f e.
          subset_mem v.joined (firsts t (grammar goal)) (t.first goal) (kept t grammar k goal).2
          (first_token t fits below (grammar goal) done y us rest v vs f e);
    }

pub complete_goal : {Goal : Type 0} (t : Tables Goal) (grammar : Productions Goal) → KeepsAll t grammar → (n : ℕ)
    → ReadBelow t (FitsGoal grammar n) (read_goal grammar n)
unfolding FitsGoal read_goal
complete_goal t grammar k zero goal y us rest f m = absurd f
complete_goal t grammar k (suc n) goal y us rest f m =
    complete t (FitsGoal grammar n) (read_goal grammar n) (claims_hold t grammar k n) (complete_goal t grammar k n)
    (λ test. false) (grammar goal) (t.follow goal) (kept t grammar k goal).0 done y us rest f m (λ test no. absurd cc)
