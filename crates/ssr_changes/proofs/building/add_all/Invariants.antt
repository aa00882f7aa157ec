use Rattle.std.proofs.Common.{◌≡◌, ◌+◌, ◌≤◌, All, length}
use Rattle.std.specs.Vec.Iter.{into_iter_items}
use Rattle.ssr_syntax_kinds.specs.declared.reach.Reach.TheVariants.{Whole}
use Rattle.ssr_macro_arguments.specs.Arguments.{HasItsTree}
use Rattle.ssr_changes.proofs.building.add_all.Given as goal

abbrev pub invariant-loop-one : goal.invariant-loop-one
invariant-loop-one l = record {
  reach : l.workspace.reach ≡ Whole;
  files : l.workspace.files ≡ l.initial.workspace.files;
  counted : length l.workspace.expansions + l.refused ≡ length l.initial.workspace.expansions + length l.yielded;
  few : l.refused ≤ length l.yielded;
  left : All HasItsTree (into_iter_items l.one-iterator);
}
