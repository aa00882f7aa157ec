-- Private: items by where they stand.
use Rattle.std.specs.Prelude.{◌≡◌, Some, slice_get}
use Rattle.ssr_names_items.specs.declared.table.Item.{Item}
use Rattle.ssr_names_items.specs.declared.table.Table.{Table}
use Rattle.ssr_names.specs.declared.copies.ItemPlace.{ItemPlace}

-- where an item stands, and its name
pub record IsItemPlace (table : Table) (place : ItemPlace) : Type 0 where
  pub row : Item
  pub is : slice_get table.items.items place.item.0 ≡ Some row
  pub node : row.node ≡ place.node
  pub name : row.name ≡ place.name

-- two items have one name and stand at one place
pub record IsSamePlace (one other : ItemPlace) : Type 0 where
  pub node : one.node ≡ other.node
  pub name : one.name ≡ other.name
