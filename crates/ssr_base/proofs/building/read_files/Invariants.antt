use Rattle.std.proofs.Common.{◌≡◌, ◌+◌, [], All, length}
use Rattle.std.specs.Vec.Iter.{into_iter_items}
use Rattle.ssr_syntax.specs.Reading.{IsRead}
use Rattle.ssr_base.specs.Building.{with_file, in_turn}
use Rattle.ssr_base_trees.specs.Growth.{no_tree, only_files}
use Rattle.ssr_base.proofs.building.read_files.Given as goal

abbrev pub invariant-loop-text : goal.invariant-loop-text
invariant-loop-text l = record {
  read : All IsRead l.trees.items;
  counted : length l.trees.items + length (into_iter_items l.text-iterator) ≡ length l.fn.files.items;
  rest : in_turn with_file (only_files l.trees.items) (into_iter_items l.text-iterator) ≡ in_turn with_file no_tree l.fn.files.items;
}
