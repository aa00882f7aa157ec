use Rattle.std.proofs.Common.{List, ◌≡◌, ◌≤◌, ◌-◌, length}
use Rattle.ssr_syntax_tree.specs.Syntax.{Syntax}
use Rattle.ssr_macro_arguments.specs.Private.Made.{AreMade}
use Rattle.ssr_macro_arguments.proofs.expanding.add_nested.Given as goal

abbrev pub invariant-loop-next : goal.invariant-loop-next
invariant-loop-next l = record {
  made : (trees : List Syntax) → length trees ≡ l.files → AreMade trees l.initial.made.items → AreMade trees l.made.items;
  few : length l.made.items ≤ l.most;
}

abbrev pub decreases-loop-next : goal.decreases-loop-next
decreases-loop-next l = l.most - l.next
