-- What names and paths stand for, by what modules declare and by what each import is taken to stand for.
use Rattle.std.specs.Prelude.{ℕ, ◌≡◌, ◌+◌, ◌*◌, ◌<◌, ◌⊎◌, true, List, [], ◌∷◌, ◌++◌, Option, Some, slice_get, unwrap_or, length, Contains}
use Rattle.std.specs.List.Sorted.{IsNonDecreasingBy}
use Rattle.std.specs.Option.{option_map_or}
use Rattle.ssr_names_items.specs.declared.table.Name.{Name}
use Rattle.ssr_names_items.specs.declared.table.ModuleNo.{ModuleNo}
use Rattle.ssr_names_items.specs.declared.table.ItemNo.{ItemNo}
use Rattle.ssr_names_items.specs.declared.table.ImportNo.{ImportNo}
use Rattle.ssr_names_items.specs.declared.table.Namespace.{Namespace}
use Rattle.ssr_names_items.specs.declared.table.Namespace.TheVariants as ns
use Rattle.ssr_names_items.specs.declared.table.Module.{Module}
use Rattle.ssr_names_items.specs.declared.table.ModuleKind.TheVariants as kinds
use Rattle.ssr_names_items.specs.declared.table.Thing.{Thing}
use Rattle.ssr_names_items.specs.declared.table.Thing.TheVariants as things
use Rattle.ssr_names_items.specs.declared.table.Visibility.{Visibility}
use Rattle.ssr_names_items.specs.declared.table.Visibility.TheVariants as seen
use Rattle.ssr_names_items.specs.declared.table.Entry.{Entry}
use Rattle.ssr_names_items.specs.declared.table.Item.{Item}
use Rattle.ssr_names_items.specs.declared.table.Start.{Start}
use Rattle.ssr_names_items.specs.declared.table.Start.TheVariants as starts
use Rattle.ssr_names_items.specs.declared.table.Brings.TheVariants as brought
use Rattle.ssr_names_items.specs.declared.table.Import.{Import}
use Rattle.ssr_names_items.specs.declared.table.Table.{Table}
use Rattle.ssr_names.specs.declared.definitions.OutsideNo.{OutsideNo}
use Rattle.ssr_names.specs.declared.definitions.Definition.{Definition}
use Rattle.ssr_names.specs.declared.definitions.Definition.TheVariants as def
use Rattle.ssr_names.specs.declared.definitions.Meaning.{Meaning}
use Rattle.ssr_names.specs.declared.definitions.Meaning.TheVariants as meanings
use Rattle.ssr_names.specs.declared.lookup.Question.{Question}
use Rattle.ssr_names.specs.declared.space.Answers.{Answers}
use Rattle.ssr_names.specs.declared.space.Member.{Member}
use Rattle.ssr_names.specs.declared.space.Known.{Known}
use Rattle.ssr_names.specs.declared.space.Space.{Space}

-- ** What is declared.

-- a path of a crate that isn't read
pub record IsOutside (d : Definition) : Type 0 where
  pub path : OutsideNo
  pub is : d ≡ def.Outside path

abbrev pub module_at : Space → ModuleNo → Option Module
module_at space m = slice_get space.table.now.modules.items m.0

abbrev pub item_at : Space → ItemNo → Option Item
item_at space i = slice_get space.table.now.items.items i.0

abbrev pub import_at : Space → ImportNo → Option Import
import_at space i = slice_get space.table.now.imports.items i.0

-- what an import is taken to stand for in a namespace
abbrev pub in_namespace : Answers → Namespace → Meaning
in_namespace answers ns.Type = answers.as_type
in_namespace answers ns.Value = answers.as_value
in_namespace answers ns.Macro = answers.as_macro

abbrev pub answer_of : Space → ImportNo → Namespace → Meaning
answer_of space i n = option_map_or (λ answers. in_namespace answers n) (slice_get space.answers.items i.0) meanings.Unknown

-- of items that stand at one place the first one
abbrev pub first_of : Space → ItemNo → ItemNo
first_of space i = unwrap_or (slice_get space.first_items.items i.0) i

-- by what entries stand in order
abbrev pub rank : ModuleNo → Name → ℕ
rank m name = m.0 * 4294967296 + name.0

abbrev pub rank_of : Entry → ℕ
rank_of entry = rank entry.«module» entry.name

-- The entries stand in the order of their modules and names, and each module behind the one around it.
pub record IsOrderly (table : Table) : Type 0 where
  pub in_order : IsNonDecreasingBy rank_of table.entries.items
  pub housed : (entry : Entry) → Contains table.entries.items entry → entry.«module».0 < length table.modules.items
  pub nested : (m up : ModuleNo) (row : Module) → slice_get table.modules.items m.0 ≡ Some row → row.parent ≡ Some up → up.0 < m.0

abbrev pub IsOrdered : Space → Type 0
IsOrdered space = IsOrderly space.table.now

-- ** What is seen.

-- a module or a block stands directly in another one
pub record IsAbove (space : Space) (m up : ModuleNo) : Type 0 where
  pub row : Module
  pub is : module_at space m ≡ Some row
  pub parent : row.parent ≡ Some up

-- nothing is around a module
abbrev pub IsTop : Space → ModuleNo → Type 0
IsTop space m = (up : ModuleNo) → IsAbove space m up → ⊥

-- a block stands directly in another one, or in a module
pub record IsAroundBlock (space : Space) (m up : ModuleNo) : Type 0 where
  pub row : Module
  pub is : module_at space m ≡ Some row
  pub block : row.kind ≡ kinds.Block
  pub parent : row.parent ≡ Some up

-- a module is no block
abbrev pub IsOutermost : Space → ModuleNo → Type 0
IsOutermost space m = (up : ModuleNo) → IsAroundBlock space m up → ⊥

-- a module is another one, or stands below it
pub data IsWithin (space : Space) : ModuleNo → ModuleNo → Type 0 where
  within_itself : (m : ModuleNo) → IsWithin space m m
  within_below : (m up outer : ModuleNo) → IsAbove space m up → IsWithin space up outer → IsWithin space m outer

abbrev pub IsSeen : Space → Visibility → ModuleNo → Type 0
IsSeen space seen.Public viewer = Unit {0}
IsSeen space (seen.In outer) viewer = IsWithin space viewer outer

-- an import isn't looked at for its own path
abbrev pub IsAsked : Thing → Option ImportNo → Type 0
IsAsked (things.Import i) skipped = skipped ≡ Some i → ⊥
IsAsked t skipped = Unit {0}

-- an entry is one of the name in a module, and is seen
pub record Counts (space : Space) (m : ModuleNo) (question : Question) (entry : Entry) : Type 0 where
  pub within : entry.«module» ≡ m
  pub named : entry.name ≡ question.name
  pub namespaced : entry.namespace ≡ question.namespace
  pub asked : IsAsked entry.thing question.skipped
  pub seen : IsSeen space entry.visibility question.viewer

-- ** What an entry stands for.

-- a name is that of a crate
abbrev pub IsKnown : List Known → Name → Definition → Type 0
IsKnown known name d = Contains known (record { name = name; definition = d })

abbrev pub StandsFor : Space → Namespace → Thing → Definition → Type 0
StandsFor space n (things.Item i) d = d ≡ def.Item (first_of space i)
StandsFor space n (things.Module m) d = d ≡ def.Module m
StandsFor space n (things.Import i) d = answer_of space i n ≡ meanings.One d
StandsFor space n (things.Crate name) d = IsKnown space.crates.items name d
StandsFor space n things.Unknown d = ⊥

-- it stands for nothing: an import that has no such name, or what isn't read
abbrev pub IsNothing : Space → Namespace → Thing → Type 0
IsNothing space n (things.Import i) = answer_of space i n ≡ meanings.Nothing
IsNothing space n things.Unknown = Unit {0}
IsNothing space n t = ⊥

-- an import that has no such name
abbrev pub IsVoid : Space → Namespace → Thing → Type 0
IsVoid space n (things.Import i) = answer_of space i n ≡ meanings.Nothing
IsVoid space n t = ⊥

-- ** What a module has under a name but for what comes in by `*`.

-- an entry of these is of the name, is seen, and stands for this
pub record IsAmong (space : Space) (m : ModuleNo) (question : Question) (entries : List Entry) (d : Definition) : Type 0 where
  pub entry : Entry
  pub among : Contains entries entry
  pub counts : Counts space m question entry
  pub stands : StandsFor space question.namespace entry.thing d

abbrev pub IsDeclared : Space → ModuleNo → Question → Definition → Type 0
IsDeclared space m question d = IsAmong space m question space.table.now.entries.items d

-- Nothing hides in a module what comes in by `*`, or what is found further out: what it has under the name and is seen isn't
-- there in each configuration.
abbrev pub IsFree : Space → ModuleNo → Question → Type 0
IsFree space m question =
    IsOrdered space → (entry : Entry) → Contains space.table.now.entries.items entry → Counts space m question entry → entry.is_sure ≡ true
    → IsNothing space question.namespace entry.thing

-- ** What comes in by `*`.

-- the same, asked by another module
abbrev pub seen_from : ModuleNo → Question → Question
seen_from m question = record { name = question.name; namespace = question.namespace; viewer = m; skipped = question.skipped }

-- an import brings all into a module, and is seen
pub record IsGlob (space : Space) (m : ModuleNo) (question : Question) (i : ImportNo) : Type 0 where
  pub row : Import
  pub is : import_at space i ≡ Some row
  pub within : row.«module» ≡ m
  pub brings : row.brings ≡ brought.Glob
  pub seen : IsSeen space row.visibility question.viewer
  pub asked : question.skipped ≡ Some i → ⊥

-- An import brings all into a module, or into one of which such an import brings all in, and nothing there hides what it brings.
pub data Reaches (space : Space) (m : ModuleNo) (question : Question) : ImportNo → Type 0 where
  reaches_directly : (i : ImportNo) → IsGlob space m question i → Reaches space m question i
  reaches_through : (front i : ImportNo) (row : Import) (inner : ModuleNo) → Reaches space m question front → import_at space front ≡ Some row
      → answer_of space front ns.Type ≡ meanings.One (def.Module inner) → IsFree space inner (seen_from row.«module» question)
      → IsGlob space inner (seen_from row.«module» question) i → Reaches space m question i

-- an item is a variant of this name
pub record IsVariant (space : Space) (of : ItemNo) (name : Name) (d : Definition) : Type 0 where
  pub member : Member
  pub among : Contains space.members.items member
  pub of_it : member.of ≡ of
  pub named : member.name ≡ name
  pub is : d ≡ def.Item (first_of space member.item)

-- what an import brings in under a name
pub data Brings (space : Space) (question : Question) (i : ImportNo) : Definition → Type 0 where
  brings_of_module : (d : Definition) (row : Import) (inner : ModuleNo) → import_at space i ≡ Some row → answer_of space i ns.Type ≡ meanings.One (def.Module inner)
      → IsDeclared space inner (seen_from row.«module» question) d → Brings space question i d
  brings_of_enum : (d : Definition) (item : ItemNo) → answer_of space i ns.Type ≡ meanings.One (def.Item item) → IsVariant space item question.name d
      → Brings space question i d
  brings_outside : (d : Definition) (path : OutsideNo) → answer_of space i ns.Type ≡ meanings.One (def.Outside path) → IsOutside d → Brings space question i d

-- ** What a module has under a name.

pub data Has (space : Space) (m : ModuleNo) (question : Question) : Definition → Type 0 where
  has_declared : (d : Definition) → IsDeclared space m question d → Has space m question d
  has_brought : (d : Definition) (i : ImportNo) → IsFree space m question → Reaches space m question i → Brings space question i d → Has space m question d

-- ** What a name stands for in a module.

-- what is known under a name everywhere: a crate, a builtin type, or what the prelude has
pub data IsEverywhere (space : Space) (question : Question) : Definition → Type 0 where
  as_crate : (d : Definition) → question.namespace ≡ ns.Type → IsKnown space.crates.items question.name d → IsEverywhere space question d
  as_builtin : (d : Definition) → question.namespace ≡ ns.Type → IsKnown space.builtin_types.items question.name d → IsEverywhere space question d
  as_prelude : (d : Definition) → IsOutside d → IsEverywhere space question d

-- The innermost block around that has the name, or the module; what is known everywhere, if nothing there hides it.
pub data Finds (space : Space) (question : Question) : ModuleNo → Definition → Type 0 where
  found_here : (m : ModuleNo) (d : Definition) → Has space m question d → Finds space question m d
  found_around : (m up : ModuleNo) (d : Definition) → IsAroundBlock space m up → IsFree space m question → Finds space question up d → Finds space question m d
  found_everywhere : (m : ModuleNo) (d : Definition) → IsFree space m question → (IsOrdered space → IsOutermost space m) → IsEverywhere space question d
      → Finds space question m d

-- ** Where a path begins.

-- a module is a block in another one, or is that
pub data IsInBlocks (space : Space) : ModuleNo → ModuleNo → Type 0 where
  blocks_none : (m : ModuleNo) → IsInBlocks space m m
  blocks_one : (m up plain : ModuleNo) → IsAroundBlock space m up → IsInBlocks space up plain → IsInBlocks space m plain

-- the module around blocks
pub record IsPlain (space : Space) (m plain : ModuleNo) : Type 0 where
  pub around : IsInBlocks space m plain
  pub outermost : IsOrdered space → IsOutermost space plain

-- the root above a module
pub record IsRoot (space : Space) (m root : ModuleNo) : Type 0 where
  pub above : IsWithin space m root
  pub top : IsOrdered space → IsTop space root

-- the module around that of blocks
pub record IsParent (space : Space) (m parent : ModuleNo) : Type 0 where
  pub plain : ModuleNo
  pub up : ModuleNo
  pub around : IsPlain space m plain
  pub above : IsAbove space plain up
  pub is : IsPlain space up parent

-- the module so many levels up
pub data IsUp (space : Space) : ℕ → ModuleNo → ModuleNo → Type 0 where
  up_none : (m : ModuleNo) → IsUp space 0 m m
  up_one : (n : ℕ) (m at parent : ModuleNo) → IsUp space n m at → IsParent space at parent → IsUp space (n + 1) m parent

-- the module that a path begins in, where it doesn't begin with a name
pub data IsBase (space : Space) (m : ModuleNo) : Start → ModuleNo → Type 0 where
  by_crate : (root : ModuleNo) → IsRoot space m root → IsBase space m starts.Crate root
  by_self : (plain : ModuleNo) → IsPlain space m plain → IsBase space m starts.SelfModule plain
  by_super : (n : ℕ) (plain up : ModuleNo) → IsPlain space m plain → IsUp space n plain up → IsBase space m (starts.Super n) up

-- ** Paths.

-- how a path begins, the module that it stands in, and the import whose path it is
pub record Place : Type 0 where
  pub start : Start
  pub within : ModuleNo
  pub import : Option ImportNo

-- what is asked for one of its names
abbrev pub asked_in : Place → Namespace → Name → Question
asked_in place n name = record { name = name; namespace = n; viewer = place.within; skipped = place.import }

abbrev pub IsOfCrate : Space → Question → Definition → Type 0
IsOfCrate space question d = (question.namespace ≡ ns.Type) × IsKnown space.crates.items question.name d

abbrev pub IsOfBuiltin : Space → Question → Definition → Type 0
IsOfBuiltin space question d = (question.namespace ≡ ns.Type) × IsKnown space.builtin_types.items question.name d

-- what a name stands for in a root, or as that of a crate
pub record IsInRoot (space : Space) (m : ModuleNo) (question : Question) (d : Definition) : Type 0 where
  pub root : ModuleNo
  pub of : IsRoot space m root
  pub is : Has space root question d ⊎ (IsFree space root question × IsOfCrate space question d)

-- what the first name of a path stands for
pub data Begins (space : Space) (place : Place) (question : Question) : Definition → Type 0 where
  begins_plain : (d : Definition) → place.start ≡ starts.Plain → Finds space question place.within d → Begins space place question d
  begins_in_root : (d : Definition) (i : ImportNo) → place.start ≡ starts.Plain → place.import ≡ Some i → IsInRoot space place.within question d → Begins space place question d
  begins_globally : (d : Definition) → place.start ≡ starts.Global → IsInRoot space place.within question d ⊎ IsOfCrate space question d → Begins space place question d
  begins_based : (base : ModuleNo) (d : Definition) → IsBase space place.within place.start base → Has space base question d → Begins space place question d

-- an item is an alias of a definition
abbrev pub IsAlias : Space → ItemNo → Definition → Type 0
IsAlias space i d = Contains space.aliases.items (record { item = i; meaning = meanings.One d })

-- what a definition is, where that is a type alias what it is an alias of
pub data IsUnaliased (space : Space) : Definition → Definition → Type 0 where
  no_alias : (d : Definition) → IsUnaliased space d d
  by_alias : (i : ItemNo) (d : Definition) → IsAlias space i d → IsUnaliased space (def.Item i) d

-- what a name behind a definition stands for
pub data IsBehind (space : Space) (question : Question) (c : Definition) : Definition → Type 0 where
  behind_module : (m : ModuleNo) (d : Definition) → IsUnaliased space c (def.Module m) → Has space m question d → IsBehind space question c d
  behind_declared : (item : ItemNo) (d : Definition) → IsUnaliased space c (def.Item item) → IsVariant space item question.name d → IsBehind space question c d
  behind_undeclared : (item : ItemNo) → IsUnaliased space c (def.Item item) → IsBehind space question c (def.Member item question.name)
  behind_outside : (path : OutsideNo) (d : Definition) → IsUnaliased space c (def.Outside path) → IsOutside d → IsBehind space question c d

-- What a path stands for in a namespace. All of its names but the last are looked up as types.
pub data PathStandsFor (space : Space) (place : Place) : Namespace → List Name → Definition → Type 0 where
  path_alone : (n : Namespace) (base : ModuleNo) → IsBase space place.within place.start base → PathStandsFor space place n [] (def.Module base)
  path_first : (n : Namespace) (name : Name) (d : Definition) → Begins space place (asked_in place n name) d → PathStandsFor space place n (name ∷ []) d
  path_behind : (n : Namespace) (names : List Name) (name : Name) (c d : Definition) → PathStandsFor space place ns.Type names c
      → IsBehind space (asked_in place n name) c d → PathStandsFor space place n (names ++ name ∷ []) d
