use Rattle.std.proofs.Common.{◌≤◌, length}
use Rattle.ssr_syntax_tree.specs.Syntax.{source_of}
use Rattle.ssr_macro_arguments.specs.Calls.{file}
use Rattle.ssr_macro_arguments.specs.Private.Made.{AreMadeIn}
use Rattle.ssr_macro_arguments.proofs.expanding.made_in_file.Given as goal

abbrev pub invariant-loop-number : goal.invariant-loop-number
invariant-loop-number l = record {
  made : AreMadeIn (file l.tree) l.file (source_of l.tree) l.made.items;
  few : length l.made.items ≤ l.room;
}
