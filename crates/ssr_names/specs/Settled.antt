-- What imports stand for, once that is settled.
use Rattle.std.specs.Prelude.{ℕ, ◌≡◌, nat_lt, Some, slice_get, if◌then◌else◌}
use Rattle.ssr_names_items.specs.declared.table.ImportNo.{ImportNo}
use Rattle.ssr_names_items.specs.declared.table.Import.{Import}
use Rattle.ssr_names_items.specs.declared.table.Namespace.{Namespace}
use Rattle.ssr_names.specs.declared.definitions.Definition.{Definition}
use Rattle.ssr_names.specs.declared.definitions.Meaning.TheVariants as meaning
use Rattle.ssr_names.specs.declared.space.Answers.{Answers}
use Rattle.ssr_names.specs.declared.space.Space.{Space}
use Rattle.ssr_names.specs.Lookup.{PathStandsFor, Place, in_namespace}

-- how the path of an import begins, and where it stands
abbrev pub place_of_import : ImportNo → Import → Place
place_of_import i row = record { start = row.start; within = row.«module»; import = Some i }

-- what the path of an import is found to stand for
abbrev pub AreAnswers : Space → ImportNo → Import → Answers → Type 0
AreAnswers space i row answers =
    (n : Namespace) (d : Definition) → in_namespace answers n ≡ meaning.One d → PathStandsFor space (place_of_import i row) n row.segments.items d

-- the number of an import; of places that no import can have all are one
abbrev pub import_no : ℕ → ImportNo
import_no place = record { 0 = if nat_lt place 4294967296 then place else 4294967295 }

-- an import is taken for what its path stands for, where it is taken for something
abbrev pub IsSettledAt : Space → ℕ → Type 0
IsSettledAt space place =
    (row : Import) (answers : Answers) → slice_get space.table.now.imports.items place ≡ Some row → slice_get space.answers.items place ≡ Some answers
    → AreAnswers space (import_no place) row answers

-- each import is taken for what its path stands for, where it is taken for something
abbrev pub IsSettled : Space → Type 0
IsSettled space = (place : ℕ) → IsSettledAt space place
