use Rattle.std.proofs.Common.{◌≤◌, length}
use Rattle.ssr_macro_arguments.specs.Private.Made.{AreMade}
use Rattle.ssr_macro_arguments.proofs.expanding.made_in_files.Given as goal

abbrev pub invariant-loop-file : goal.invariant-loop-file
invariant-loop-file l = record {
  made : AreMade l.files l.made.items;
  few : length l.made.items ≤ l.most;
}
