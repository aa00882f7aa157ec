-- What whole paths stand for, of which a macro's name alone is looked up otherwise than others.
use Rattle.std.specs.Prelude.{◌≡◌, List, [], ◌∷◌, Some}
use Rattle.ssr_names_items.specs.declared.table.Name.{Name}
use Rattle.ssr_names_items.specs.declared.table.ModuleNo.{ModuleNo}
use Rattle.ssr_names_items.specs.declared.table.ItemNo.{ItemNo}
use Rattle.ssr_names_items.specs.declared.table.Item.{Item}
use Rattle.ssr_names_items.specs.declared.table.Namespace.{Namespace}
use Rattle.ssr_names_items.specs.declared.table.Namespace.TheVariants as namespace
use Rattle.ssr_names_items.specs.declared.table.Start.TheVariants as start
use Rattle.ssr_names.specs.declared.definitions.Definition.{Definition}
use Rattle.ssr_names.specs.declared.definitions.Definition.TheVariants as definition
use Rattle.ssr_names.specs.declared.space.Space.{Space}
use Rattle.ssr_names.specs.Lookup.{IsKnown, IsOutside, IsWithin, PathStandsFor, Place, item_at}

-- a macro is seen in its own module and below
pub record IsSeenMacro (space : Space) (m : ModuleNo) (item : ItemNo) (d : Definition) : Type 0 where
  pub row : Item
  pub is_row : item_at space item ≡ Some row
  pub within : IsWithin space m row.«module»
  pub is : d ≡ definition.Item item

-- What a whole path stands for. A module of the standard library where a type is wanted is the builtin type of its name.
pub data WholeStandsFor (space : Space) (place : Place) (n : Namespace) (names : List Name) : Definition → Type 0 where
  whole_path : (d : Definition) → PathStandsFor space place n names d → WholeStandsFor space place n names d
  whole_type : (c d : Definition) → n ≡ namespace.Type → PathStandsFor space place n names c → IsOutside c → IsOutside d → WholeStandsFor space place n names d
  whole_own_macro : (name : Name) (item : ItemNo) (d : Definition) → place.start ≡ start.Plain → n ≡ namespace.Macro → names ≡ name ∷ []
      → IsKnown space.macros.items name (definition.Item item) → IsSeenMacro space place.within item d → WholeStandsFor space place n names d
  whole_macro : (name : Name) (d : Definition) → place.start ≡ start.Plain → n ≡ namespace.Macro → names ≡ name ∷ [] → IsOutside d → WholeStandsFor space place n names d
