-- What units are read between.
use Rattle.std.specs.Prelude.{ℕ, List, [], codes}
use Rattle.ssr_drafts.specs.declared.units.UnitKind.{UnitKind}
use Rattle.ssr_drafts.specs.declared.units.UnitKind.TheVariants as kinds

-- what stands in front of a unit that is read as a file
abbrev pub front_of : UnitKind → List ℕ
front_of kinds.Items = codes "use a; "
front_of kinds.Members = codes "trait T { "
front_of kinds.Foreign = codes "extern { "
front_of kinds.Statements = codes "fn f() { "
front_of kinds.Arms = codes "fn f() { match x { "
front_of kinds.Generics = codes "fn f "
front_of kinds.Tail = codes "fn f() "

-- and what behind it
abbrev pub back_of : UnitKind → List ℕ
back_of kinds.Items = []
back_of kinds.Members = codes " }"
back_of kinds.Foreign = codes " }"
back_of kinds.Statements = codes " }"
back_of kinds.Arms = codes " } }"
back_of kinds.Generics = codes " () {}"
back_of kinds.Tail = codes " {}"
