use Rattle.std.specs.Prelude.{All}
use Rattle.ssr_names.specs.Private.Copies.{IsItemPlace}
use Rattle.ssr_names.proofs.copies.item_places.Given as goal

abbrev pub invariant-loop-number : goal.invariant-loop-number
invariant-loop-number l = All (IsItemPlace l.table) l.places.items
