use Rattle.std.proofs.Common.{◌≡◌, ◌++◌, length, drop, string_bytes}
use Rattle.ssr_base_trees.specs.Changes.{ChangesInOrder, replaced}
use Rattle.ssr_base_trees.specs.Applied.{changes_of}
use Rattle.std.specs.Str.{IsCharBoundary}
use Rattle.ssr_base_trees.proofs.edit.TextEdit.written.Given as goal

abbrev pub invariant-loop-range : goal.invariant-loop-range
invariant-loop-range l = record {
  written : string_bytes l.new ++ replaced l.text l.at (length l.text) (drop l.range-index (changes_of l.range-items))
      ≡ replaced l.text 0 (length l.text) (changes_of l.range-items);
  order : ChangesInOrder l.at (drop l.range-index (changes_of l.range-items));
  place : IsCharBoundary l.text l.at;
}
