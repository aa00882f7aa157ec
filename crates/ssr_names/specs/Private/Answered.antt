-- Private: how what is found of a name agrees with what it stands for.
use Rattle.std.specs.Prelude.{ℕ, ◌≡◌, Bool, true, false, nat_lt, List, [], ◌∷◌, ◌++◌, Some, Contains}
use Rattle.ssr_names_items.specs.declared.table.Name.{Name}
use Rattle.ssr_names_items.specs.declared.table.ModuleNo.{ModuleNo}
use Rattle.ssr_names_items.specs.declared.table.ImportNo.{ImportNo}
use Rattle.ssr_names_items.specs.declared.table.Namespace.TheVariants as ns
use Rattle.ssr_names_items.specs.declared.table.Thing.{Thing}
use Rattle.ssr_names_items.specs.declared.table.Thing.TheVariants as things
use Rattle.ssr_names_items.specs.declared.table.Entry.{Entry}
use Rattle.ssr_names_items.specs.declared.table.Import.{Import}
use Rattle.ssr_names.specs.declared.definitions.Definition.{Definition}
use Rattle.ssr_names.specs.declared.definitions.Definition.TheVariants as def
use Rattle.ssr_names.specs.declared.definitions.Meaning.TheVariants as meanings
use Rattle.ssr_names.specs.declared.lookup.Question.{Question}
use Rattle.ssr_names.specs.declared.lookup.Found.{Found}
use Rattle.ssr_names.specs.declared.lookup.PathQuestion.{PathQuestion}
use Rattle.ssr_names.specs.declared.lookup.Front.{Front}
use Rattle.ssr_names.specs.declared.lookup.Front.TheVariants as fronts
use Rattle.ssr_names.specs.declared.space.Space.{Space}
use Rattle.ssr_names.specs.Lookup.{answer_of, import_at, rank_of, IsOrdered, IsAroundBlock, Counts, IsNothing, IsVoid, IsAmong, IsDeclared, IsFree, Reaches, Brings, Has, IsEverywhere, Finds, Place, PathStandsFor}

abbrev pub is_before : Entry → ℕ → Bool
is_before entry other = nat_lt (rank_of entry) other

abbrev pub is_behind : Entry → ℕ → Bool
is_behind entry other = nat_lt other (rank_of entry)

-- an entry is one of a name in a module
abbrev pub IsRanked : ModuleNo → Name → Entry → Type 0
IsRanked m name entry = (entry.«module» ≡ m) × (entry.name ≡ name)

abbrev pub is_import : Thing → Bool
is_import (things.Import i) = true
is_import t = false

abbrev pub is_declared : Thing → Bool
is_declared (things.Import i) = false
is_declared t = true

-- an entry of these is of the name, is seen, and is there in each configuration
pub record HasSure (space : Space) (m : ModuleNo) (question : Question) (entries : List Entry) : Type 0 where
  pub entry : Entry
  pub among : Contains entries entry
  pub counts : Counts space m question entry
  pub sure : entry.is_sure ≡ true
  pub something : IsVoid space question.namespace entry.thing → ⊥

-- what is found among entries, of which those are looked at that are picked
pub record IsFoundAmong (space : Space) (m : ModuleNo) (question : Question) (entries : List Entry) (picks : Thing → Bool) (found : Found) : Type 0 where
  pub means : (d : Definition) → found.meaning ≡ meanings.One d → IsAmong space m question entries d
  pub sure : found.is_sure ≡ true → HasSure space m question entries
  pub free : found.is_sure ≡ false → IsOrdered space → (entry : Entry) → Contains entries entry → picks entry.thing ≡ true → Counts space m question entry
      → entry.is_sure ≡ true → IsNothing space question.namespace entry.thing

-- what a module has under a name but for what comes in by `*`
pub record IsDeclaredAs (space : Space) (m : ModuleNo) (question : Question) (found : Found) : Type 0 where
  pub means : (d : Definition) → found.meaning ≡ meanings.One d → IsDeclared space m question d
  pub sure : found.is_sure ≡ true → HasSure space m question space.table.now.entries.items
  pub free : found.is_sure ≡ false → IsFree space m question

-- what isn't read is no definition, and hides nothing
pub record IsUnread (found : Found) : Type 0 where
  pub means : (d : Definition) → found.meaning ≡ meanings.One d → ⊥
  pub unsure : found.is_sure ≡ false

-- an import by `*` is there in each configuration
abbrev pub IsSureImport : Space → ImportNo → Type 0
IsSureImport space i = (row : Import) × (import_at space i ≡ Some row) × (row.is_sure ≡ true)

-- an import by `*` brings in what a module has
pub record BringsModule (space : Space) (i : ImportNo) (row : Import) (m : ModuleNo) : Type 0 where
  pub is : import_at space i ≡ Some row
  pub stands : answer_of space i ns.Type ≡ meanings.One (def.Module m)

-- what one import is found to bring in under a name
pub record IsBrought (space : Space) (question : Question) (i : ImportNo) (found : Found) : Type 0 where
  pub means : (d : Definition) → found.meaning ≡ meanings.One d → Brings space question i d
  pub sure : found.is_sure ≡ true → IsSureImport space i

-- what all imports by `*` of a module are found to bring in
pub record IsBroughtIn (space : Space) (m : ModuleNo) (question : Question) (found : Found) : Type 0 where
  pub means : (d : Definition) → found.meaning ≡ meanings.One d → (i : ImportNo) × Reaches space m question i × Brings space question i d
  pub sure : found.is_sure ≡ true → (i : ImportNo) × Reaches space m question i × IsSureImport space i

-- a module has something under a name that is there in each configuration
pub data IsSurely (space : Space) (m : ModuleNo) (question : Question) : Type 0 where
  surely_declared : HasSure space m question space.table.now.entries.items → IsSurely space m question
  surely_brought : (i : ImportNo) → Reaches space m question i → IsSureImport space i → IsSurely space m question

-- what is found in a module
pub record IsInModule (space : Space) (m : ModuleNo) (question : Question) (found : Found) : Type 0 where
  pub means : (d : Definition) → found.meaning ≡ meanings.One d → Has space m question d
  pub sure : found.is_sure ≡ true → IsSurely space m question
  pub free : found.is_sure ≡ false → IsFree space m question

-- a block around or the module has something under a name that is there in each configuration
pub data IsSurelyAround (space : Space) (question : Question) : ModuleNo → Type 0 where
  surely_here : (m : ModuleNo) → IsSurely space m question → IsSurelyAround space question m
  surely_around : (m up : ModuleNo) → IsAroundBlock space m up → IsSurelyAround space question up → IsSurelyAround space question m

-- what is found outward
pub record IsAround (space : Space) (question : Question) (m : ModuleNo) (found : Found) : Type 0 where
  pub means : (d : Definition) → found.meaning ≡ meanings.One d → Finds space question m d
  pub sure : found.is_sure ≡ true → IsSurelyAround space question m
  pub free : found.is_sure ≡ false → (d : Definition) → IsEverywhere space question d → Finds space question m d

abbrev pub place_of : PathQuestion → Place
place_of path = record { start = path.start; within = path.«module»; import = path.import }

-- what the first names of a path are found to stand for
abbrev pub IsFront : Space → Place → List Name → Front → Type 0
IsFront space place names fronts.Empty = names ≡ []
IsFront space place names (fronts.Behind d) = PathStandsFor space place ns.Type names d
IsFront space place names (fronts.Ended answer) = (d : Definition) → answer.meaning ≡ meanings.One d → ⊥

-- the same, of all names of a path but the last
abbrev pub IsFrontOf : Space → Place → List Name → Front → Type 0
IsFrontOf space place names front = (first : List Name) (last : Name) → names ≡ first ++ last ∷ [] → IsFront space place first front
