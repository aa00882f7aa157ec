use Rattle.std.proofs.Common.{◌≡◌, length}
use Rattle.ssr_names.specs.Declarations.{AreFirst}
use Rattle.ssr_names.proofs.copies.first_items.Given as goal

abbrev pub invariant-loop-number : goal.invariant-loop-number
invariant-loop-number l = record {
  count : length l.firsts.items ≡ l.number;
  first : AreFirst l.table l.firsts.items;
}
