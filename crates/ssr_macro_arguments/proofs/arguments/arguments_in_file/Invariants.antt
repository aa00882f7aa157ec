use Rattle.std.proofs.Common.{take}
use Rattle.std.specs.List.{AllZip}
use Rattle.ssr_syntax_tree.specs.Syntax.{source_of}
use Rattle.ssr_macro_arguments.specs.Calls.{file, IsArgumentAt}
use Rattle.ssr_macro_arguments.specs.Private.Tokens.{AreSpelledArguments}
use Rattle.ssr_macro_arguments.proofs.arguments.arguments_in_file.Given as goal

abbrev pub invariant-loop-number : goal.invariant-loop-number
invariant-loop-number l = record {
  all : AllZip (IsArgumentAt (file l.tree)) (take l.number-index l.number-items) l.tokens.items;
  spelled : AreSpelledArguments (source_of l.tree) l.tokens.items;
}
