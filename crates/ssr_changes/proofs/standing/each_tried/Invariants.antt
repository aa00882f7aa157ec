use Rattle.std.proofs.Common.{◌≡◌, map, take}
use Rattle.std.specs.List.{filter_map}
use Rattle.ssr_base_trees.specs.Applied.{changes_of}
use Rattle.ssr_set_aside.specs.Sparing.{bounds, bounds_of}
use Rattle.ssr_standing.specs.Near.{stands_by}
use Rattle.ssr_changes.specs.Private.Standing.{tell}
use Rattle.ssr_changes.specs.Standing.{untold}
use Rattle.ssr_changes.proofs.standing.each_tried.Given as goal

abbrev pub invariant-loop-range : goal.invariant-loop-range
invariant-loop-range l = record {
  made : changes_of l.made.items ≡ filter_map (tell l.trial (stands_by l.file.trees.now l.file.number)) (take l.range-index (changes_of l.range-items));
  unread : map bounds l.unread.items ≡ map bounds_of (untold (tell l.trial (stands_by l.file.trees.now l.file.number)) (take l.range-index (changes_of l.range-items)));
}
