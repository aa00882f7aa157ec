-- The values that a map of groups has of each key.
use Rattle.std.specs.Prelude.{List, [], Vec}
use Rattle.std.specs.BTreeMap.{BTreeMap, get}
use Rattle.std.specs.Option.{option_map_or}
use Rattle.std.specs.Global.{Global}
use Rattle.std.specs.declared.cmp.Ordering.{Ordering}

abbrev pub group_at : {K V : Type 0} → (K → K → Ordering) → BTreeMap K (Vec V Global) → K → List V
group_at cmp groups key = option_map_or (λ group. group.items) (get cmp groups key) []
