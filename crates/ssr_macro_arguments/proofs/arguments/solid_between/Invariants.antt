use Rattle.std.proofs.Common.{◌≡◌, ◌-◌, not}
use Rattle.std.specs.List.{All, filter, range_with_len}
use Rattle.ssr_syntax_kinds.specs.Kinds.{is_trivia}
use Rattle.ssr_syntax_tree.specs.Places.{token_of, HasToken}
use Rattle.ssr_macro_arguments.proofs.arguments.solid_between.Given as goal

abbrev pub invariant-loop-number : goal.invariant-loop-number
invariant-loop-number l = record {
  numbers :
      l.numbers.items ≡ filter (λ t. not (is_trivia (token_of l.tree t).kind)) (range_with_len l.initial.number (l.number - l.initial.number));
  has : All (HasToken l.tree) l.numbers.items;
}
