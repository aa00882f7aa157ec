use Rattle.std.proofs.Common.{ℕ, List, ◌≤◌, length}
use Rattle.ssr_macro_arguments.specs.Calls.{its_tree}
use Rattle.ssr_macro_arguments.specs.Private.Tokens.{AreSpelled}
use Rattle.ssr_macro_arguments.specs.Private.Made.{AreMadeIn}
use Rattle.ssr_macro_arguments.proofs.expanding.made_below.Given as goal

abbrev pub invariant-loop-node : goal.invariant-loop-node
invariant-loop-node l = record {
  made : (text : List ℕ) → AreSpelled text l.above.read.expansion.tokens.items → AreMadeIn (its_tree l.above.read) l.number text l.made.items;
  few : length l.made.items ≤ l.room;
}
