use Rattle.std.proofs.Common.{ℕ, List, take}
use Rattle.std.specs.List.{AllZip}
use Rattle.ssr_macro_arguments.specs.Calls.{its_tree, IsArgumentAt}
use Rattle.ssr_macro_arguments.specs.Private.Tokens.{AreSpelled, AreSpelledArguments}
use Rattle.ssr_macro_arguments.proofs.arguments.arguments_in_expansion.Given as goal

abbrev pub invariant-loop-number : goal.invariant-loop-number
invariant-loop-number l = record {
  all : AllZip (IsArgumentAt (its_tree l.above.read)) (take l.number-index l.number-items) l.tokens.items;
  spelled : (text : List ℕ) → AreSpelled text l.above.read.expansion.tokens.items → AreSpelledArguments text l.tokens.items;
}
