-- Private: how what is found is put together.
use Rattle.std.specs.Prelude.{◌≡◌, ◌⊎◌, ◌&&◌, Bool, true, false}
use Rattle.ssr_names_items.specs.declared.table.ModuleNo.{ModuleNo}
use Rattle.ssr_names_items.specs.declared.table.Thing.{Thing}
use Rattle.ssr_names_items.specs.declared.table.Entry.{Entry}
use Rattle.ssr_names.specs.declared.definitions.Definition.{Definition}
use Rattle.ssr_names.specs.declared.definitions.Meaning.{Meaning}
use Rattle.ssr_names.specs.declared.definitions.Meaning.TheVariants as meaning
use Rattle.ssr_names.specs.declared.lookup.Question.{Question}
use Rattle.ssr_names.specs.declared.lookup.Found.{Found}
use Rattle.ssr_names.specs.declared.space.Space.{Space}
use Rattle.ssr_names.specs.Private.Meanings.{is_something}
use Rattle.ssr_names.specs.Lookup.{Counts, IsNothing, IsOrdered, IsVoid, StandsFor}

abbrev pub found_of : Meaning → Bool → Found
found_of m sure = record { meaning = m; is_sure = sure && is_something m }

-- what is found first hides what is behind it, if it is sure
pub record Hides (first behind found : Found) : Type 0 where
  pub means : (d : Definition) → found.meaning ≡ meaning.One d → (first.meaning ≡ meaning.One d) ⊎ ((first.is_sure ≡ false) × (behind.meaning ≡ meaning.One d))
  pub sure : found.is_sure ≡ true → (first.is_sure ≡ true) ⊎ (behind.is_sure ≡ true)
  pub unsure : found.is_sure ≡ false → (first.is_sure ≡ false) × (behind.is_sure ≡ false)

-- both count
pub record Joins (one other found : Found) : Type 0 where
  pub means : (d : Definition) → found.meaning ≡ meaning.One d → (one.meaning ≡ meaning.One d) ⊎ (other.meaning ≡ meaning.One d)
  pub sure : found.is_sure ≡ true → (one.is_sure ≡ true) ⊎ (other.is_sure ≡ true)
  pub unsure : found.is_sure ≡ false → (one.is_sure ≡ false) × (other.is_sure ≡ false)

-- what is found with one entry more
pub record Adds (space : Space) (m : ModuleNo) (question : Question) (entry : Entry) (picks : Thing → Bool) (old new : Found) : Type 0 where
  pub means : (d : Definition) → new.meaning ≡ meaning.One d → (old.meaning ≡ meaning.One d) ⊎ (Counts space m question entry × StandsFor space question.namespace entry.thing d)
  pub sure : new.is_sure ≡ true → (old.is_sure ≡ true) ⊎ (Counts space m question entry × (entry.is_sure ≡ true) × (IsVoid space question.namespace entry.thing → ⊥))
  pub unsure : new.is_sure ≡ false → (old.is_sure ≡ false) × (IsOrdered space → picks entry.thing ≡ true → Counts space m question entry → entry.is_sure ≡ true
      → IsNothing space question.namespace entry.thing)
