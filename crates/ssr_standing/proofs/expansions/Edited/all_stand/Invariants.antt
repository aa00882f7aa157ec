use Rattle.std.proofs.Common.{◌≡◌, true}
use Rattle.ssr_standing.specs.Expansions.{first_stand}
use Rattle.ssr_standing.proofs.expansions.Edited.all_stand.Given as goal

abbrev pub invariant-loop-number : goal.invariant-loop-number
invariant-loop-number l = record {
  so_far : first_stand l.self.file.now.trees.now l.self.file.now.number l.self.file.now.tree.now l.self.edit.now l.number ≡ true;
  places : l.passing.places.now ≡ l.self.ranges.now;
}
