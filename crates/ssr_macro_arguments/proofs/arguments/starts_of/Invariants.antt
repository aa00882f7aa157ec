use Rattle.std.proofs.Common.{◌≡◌, map}
use Rattle.std.specs.List.{range_with_len}
use Rattle.ssr_macro_arguments.specs.Private.Starts.{start_at}
use Rattle.ssr_macro_arguments.proofs.arguments.starts_of.Given as goal

abbrev pub invariant-loop-token : goal.invariant-loop-token
invariant-loop-token l = record {
  starts : l.starts.items ≡ map (start_at l.tokens) (range_with_len 0 l.token-index);
  start : l.start ≡ start_at l.tokens l.token-index;
}
