-- Private: how what imports are taken for is gone over.
use Rattle.std.specs.Prelude.{ℕ, ◌≡◌, ◌-◌, Bool, true, false, Some, slice_get}
use Rattle.ssr_names_items.specs.declared.table.Import.{Import}
use Rattle.ssr_names_items.specs.declared.table.Namespace.{Namespace}
use Rattle.ssr_names.specs.declared.definitions.Definition.{Definition}
use Rattle.ssr_names.specs.declared.definitions.Meaning.TheVariants as meaning
use Rattle.ssr_names.specs.declared.imports.LookedUp.{LookedUp}
use Rattle.ssr_names.specs.declared.space.Answers.{Answers}
use Rattle.ssr_names.specs.declared.space.Space.{Space}
use Rattle.ssr_names.specs.Lookup.{in_namespace}
use Rattle.ssr_names.specs.Settled.{AreAnswers, import_no}

-- what is looked up in, where imports stand for what they do in another one
abbrev pub with_answers_of : Space → Space → Space
with_answers_of other space = record {
  table = space.table;
  first_items = space.first_items;
  module_places = space.module_places;
  globs = space.globs;
  members = space.members;
  aliases = space.aliases;
  unsure_variants = space.unsure_variants;
  crates = space.crates;
  builtin_types = space.builtin_types;
  macros = space.macros;
  type_names = space.type_names;
  brought_in = space.brought_in;
  answers = other.answers;
  impl_types = space.impl_types;
  std = space.std;
}

-- nothing but what imports stand for is another one
abbrev pub IsAnswered : Space → Space → Type 0
IsAnswered old new = new ≡ with_answers_of new old

-- what is taken for an answer is what was found, or unknown
abbrev pub KeepsTaken : Answers → Answers → Type 0
KeepsTaken found taken = (n : Namespace) (d : Definition) → in_namespace taken n ≡ meaning.One d → in_namespace found n ≡ meaning.One d

-- there is an import at a place, with what it is taken to stand for and what its path is found to stand for
pub record IsLookedUp (space : Space) (place : ℕ) (at : LookedUp) : Type 0 where
  pub row : Import
  pub is : slice_get space.table.now.imports.items place ≡ Some row
  pub held : slice_get space.answers.items place ≡ Some at.had
  pub answers : AreAnswers space (import_no place) row at.found

-- the place at a step, in order or from the last one on
abbrev pub turned : Bool → ℕ → ℕ → ℕ
turned true count step = count - 1 - step
turned false count step = step
