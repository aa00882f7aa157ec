-- When imports are settled.
use Rattle.std.proofs.Common.{◌≡◌, ℕ, ◌+◌, ◌-◌, ◌<◌, ◌⊎◌, inl, inr, Bool, true, false, length, slice_get, All, Some, refl, sym, ap, ◌∙◌, subst, arith}
use Rattle.std.proofs.lemmas.Bool.{cases_lt}
use Rattle.std.proofs.lemmas.Option.{same_Some, slice_get_within}
use Rattle.std.specs.Prelude.{replicate}
use Rattle.std.proofs.lemmas.List.Elements.{All-replicate}
use Rattle.ssr_names_items.specs.declared.table.Namespace.{Namespace}
use Rattle.ssr_names_items.specs.declared.table.Namespace.TheVariants as ns
use Rattle.ssr_names.specs.declared.definitions.Definition.{Definition}
use Rattle.ssr_names.specs.declared.definitions.Meaning.TheVariants as meaning
use Rattle.ssr_names.specs.Lookup.{in_namespace}
use Rattle.ssr_names.proofs.LookingUp.{all_at}
use Rattle.ssr_names_items.specs.declared.table.Import.{Import}
use Rattle.ssr_names.specs.declared.imports.LookedUp.{LookedUp}
use Rattle.ssr_names.specs.declared.space.Answers.{Answers}
use Rattle.ssr_names.specs.declared.space.Space.{Space}
use Rattle.ssr_names.specs.Settled.{AreAnswers, IsSettled, IsSettledAt, import_no}
use Rattle.ssr_names.specs.Private.Settling.{IsAnswered, IsLookedUp, KeepsTaken, turned, with_answers_of}

-- each place is gone to at some step
pub all_turned : (P : ℕ → Type 0) (backward : Bool) (count place : ℕ) → place < count → ((step : ℕ) → step < count → P (turned backward count step)) → P place
all_turned P true count place within all = subst P (let at : count - 1 - (count - 1 - place) ≡ place = omega arith in at) (all (count - 1 - place) (omega arith))
all_turned P false count place within all = all place within

-- at a place that no import is taken at there is nothing to settle
pub settled_within : (space : Space) (count : ℕ) → count ≡ length space.answers.items → ((place : ℕ) → place < count → IsSettledAt space place) → IsSettled space
settled_within space count is all place row answers at held =
    all place (let within = slice_get_within space.answers.items place answers held in omega arith) row answers at held

-- what was found is what is taken
settled_found : (space : Space) (place : ℕ) (import : Import) (had found : Answers) → slice_get space.table.now.imports.items place ≡ Some import
    → slice_get space.answers.items place ≡ Some had → AreAnswers space (import_no place) import found → KeepsTaken found had → IsSettledAt space place
settled_found space place import had found at held are keeps row answers row_at answers_at n d is =
    let same_row : import ≡ row = same_Some import row (sym at ∙ row_at) in
    let same_answers : had ≡ answers = same_Some had answers (sym held ∙ answers_at) in
    subst (λ (r : Import). AreAnswers space (import_no place) r found) same_row are n d
    (subst (λ (a : Answers). KeepsTaken found a) same_answers keeps n d is)

-- what was looked up is settled, where it is taken for no more than was found
pub settled_looked_up : (space : Space) (place : ℕ) (at : LookedUp) → IsLookedUp space place at → KeepsTaken at.found at.had → IsSettledAt space place
settled_looked_up space place at is keeps = settled_found space place is.row at.had at.found is.is is.held is.answers keeps

-- a place below the next one is below this one, or this one
below_next : (s n : ℕ) → s < n + 1 → (s < n) ⊎ (s ≡ n)
below_next s n less = elim (cases_lt s n) [ inl before ↦ inl before | inr past ↦ inr (omega arith) ]

-- at one step more there is nothing to settle
pub settled_next : (at : ℕ → ℕ) (fn old new : Space) (step : ℕ) → (new ≡ old) × IsSettledAt old (at step) → (old ≡ fn) × ((s : ℕ) → s < step → IsSettledAt fn (at s))
    → (new ≡ fn) × ((s : ℕ) → s < step + 1 → IsSettledAt fn (at s))
settled_next at fn old new step more had = (more.0 ∙ had.0, all)
  where
    all : (s : ℕ) → s < step + 1 → IsSettledAt fn (at s)
    all s less = elim (below_next s step less) [
      | inl before ↦ had.1 s before
      | inr last ↦ subst (λ (k : ℕ). IsSettledAt fn (at k)) (sym last) (subst (λ (x : Space). IsSettledAt x (at step)) had.0 more.1)
    ]

-- what is answered twice is answered
pub answered_on : (fn old new : Space) → IsAnswered fn old → IsAnswered old new → IsAnswered fn new
answered_on fn old new first then = then ∙ ap (with_answers_of new) first

-- ** What is unknown is settled.

abbrev pub unknown : Answers
unknown = record { as_type = meaning.Unknown; as_value = meaning.Unknown; as_macro = meaning.Unknown }

pub unknown_nothing : (n : Namespace) (d : Definition) → in_namespace unknown n ≡ meaning.One d → ⊥
unknown_nothing ns.Type d is = cc
unknown_nothing ns.Value d is = cc
unknown_nothing ns.Macro d is = cc

pub settled_unknown : (space : Space) (count : ℕ) → space.answers.items ≡ replicate count unknown → IsSettled space
settled_unknown space count all place row answers at held n d is =
    let each = subst (All (λ (a : Answers). a ≡ unknown)) (sym all) (All-replicate (λ (a : Answers). a ≡ unknown) count unknown refl) in
    let same : answers ≡ unknown = all_at (λ (a : Answers). a ≡ unknown) space.answers.items place answers each (sym held) in
    absurd (unknown_nothing n d (subst (λ (a : Answers). in_namespace a n ≡ meaning.One d) same is))

-- what was unknown stays so
pub kept_unknown : (had found : Answers) → had ≡ unknown → KeepsTaken found had
kept_unknown had found same n d is = absurd (unknown_nothing n d (subst (λ (a : Answers). in_namespace a n ≡ meaning.One d) same is))
