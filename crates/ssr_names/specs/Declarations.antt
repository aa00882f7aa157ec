-- What names are looked up in, as far as it follows from what is declared.
use Rattle.std.specs.Prelude.{◌≡◌, ◌⊎◌, false, List, Some, slice_get, All, Contains}
use Rattle.ssr_names_items.specs.declared.table.ItemNo.{ItemNo}
use Rattle.ssr_names_items.specs.declared.table.Item.{Item}
use Rattle.ssr_names_items.specs.declared.table.ItemKind.TheVariants as item_kinds
use Rattle.ssr_names_items.specs.declared.table.Owner.{Owner}
use Rattle.ssr_names_items.specs.declared.table.Owner.TheVariants as owners
use Rattle.ssr_names_items.specs.declared.table.OwnCrate.{OwnCrate}
use Rattle.ssr_names_items.specs.declared.table.CrateKind.TheVariants as crate_kinds
use Rattle.ssr_names_items.specs.declared.table.Impl.{Impl}
use Rattle.ssr_names_items.specs.declared.table.Table.{Table}
use Rattle.ssr_names_items.specs.Names.{KeepsNumbers}
use Rattle.ssr_names.specs.declared.definitions.Definition.TheVariants as def
use Rattle.ssr_names.specs.declared.space.Alias.{Alias}
use Rattle.ssr_names.specs.declared.space.Known.{Known}
use Rattle.ssr_names.specs.declared.space.Member.{Member}
use Rattle.ssr_names.specs.declared.space.Space.{Space}
use Rattle.ssr_names.specs.Lookup.{IsOutside}

-- another table declares the same, and has each name by the number that it had
pub record Declares (old new : Table) : Type 0 where
  pub crates : new.crates ≡ old.crates
  pub modules : new.modules ≡ old.modules
  pub entries : new.entries ≡ old.entries
  pub items : new.items ≡ old.items
  pub imports : new.imports ≡ old.imports
  pub impls : new.impls ≡ old.impls
  pub names : KeepsNumbers old.names new.names

-- Two items are one: they have one name, and stand at one place. So an item is there once for each place where its file is a module.
pub record IsSameItem (table : Table) (i j : ItemNo) : Type 0 where
  pub row : Item
  pub same : Item
  pub is_row : slice_get table.items.items i.0 ≡ Some row
  pub is_same : slice_get table.items.items j.0 ≡ Some same
  pub node : same.node ≡ row.node
  pub name : same.name ≡ row.name

-- each item is the one that is told to be the first of those that are the same
abbrev pub AreFirst : Table → List ItemNo → Type 0
AreFirst table firsts = (i j : ItemNo) → slice_get firsts i.0 ≡ Some j → IsSameItem table i j

-- a name is known as that of a library of the run, by its root
pub record IsLibrary (table : Table) (known : Known) : Type 0 where
  pub own : OwnCrate
  pub among : Contains table.crates.items own
  pub kind : own.kind ≡ crate_kinds.Library
  pub named : known.name ≡ own.name
  pub root : known.definition ≡ def.Module own.root

-- a name is known as that of a crate: of a library of the run, or of a crate that isn't read
abbrev pub IsCrate : Table → Known → Type 0
IsCrate table known = IsLibrary table known ⊎ IsOutside known.definition

-- what has this owner is a part of an item: a variant of an enum, an item of a trait, or one of an `impl` that is of no trait
abbrev pub IsPart : Table → Owner → ItemNo → Type 0
IsPart table owners.Module of = ⊥
IsPart table (owners.Item i) of = IsSameItem table i of
IsPart table (owners.Impl i) of = (block : Impl) × (slice_get table.impls.items i.0 ≡ Some block) × (block.of_trait ≡ false)

-- an item is a part of another one
pub record IsMember (table : Table) (member : Member) : Type 0 where
  pub part : ItemNo
  pub row : Item
  pub is : slice_get table.items.items part.0 ≡ Some row
  pub named : member.name ≡ row.name
  pub same : IsSameItem table part member.item
  pub of : IsPart table row.owner member.of

-- a name is known as that of a macro of the run
pub record IsMacroItem (table : Table) (known : Known) : Type 0 where
  pub item : ItemNo
  pub first : ItemNo
  pub row : Item
  pub is : slice_get table.items.items item.0 ≡ Some row
  pub kind : row.kind ≡ item_kinds.Macro
  pub named : known.name ≡ row.name
  pub same : IsSameItem table item first
  pub stands : known.definition ≡ def.Item first

-- an alias is a `type` item
abbrev pub IsTypeAlias : Table → Alias → Type 0
IsTypeAlias table alias = (row : Item) × (slice_get table.items.items alias.item.0 ≡ Some row) × (row.kind ≡ item_kinds.TypeAlias)

-- What is looked up in is what its table declares.
pub record AreOfTable (table : Table) (firsts : List ItemNo) (libraries types declared : List Known) : Type 0 where
  pub items : AreFirst table firsts
  pub crates : All (IsCrate table) libraries
  pub builtin : All (λ known. IsOutside known.definition) types
  pub macros : All (IsMacroItem table) declared

abbrev pub IsOfTable : Space → Type 0
IsOfTable space = AreOfTable space.table.now space.first_items.items space.crates.items space.builtin_types.items space.macros.items

-- which type an `impl` is for isn't said
abbrev pub HasMembers : Space → Type 0
HasMembers space = All (IsMember space.table.now) space.members.items

-- what a `type` item is an alias of isn't said
abbrev pub HasAliases : Space → Type 0
HasAliases space = All (IsTypeAlias space.table.now) space.aliases.items

-- what is looked up in later has the same table and answers, and may have further aliases and members
abbrev pub IsLater : Space → Space → Type 0
IsLater old new =
    (new.table ≡ old.table) × (new.answers ≡ old.answers) × (new.first_items ≡ old.first_items) × (new.crates ≡ old.crates)
    × (new.builtin_types ≡ old.builtin_types) × (new.macros ≡ old.macros)
