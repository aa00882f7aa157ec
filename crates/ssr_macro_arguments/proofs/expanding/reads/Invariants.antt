use Rattle.std.proofs.Common.{◌≡◌}
use Rattle.ssr_macro_arguments.specs.Private.Made.{reads_of}
use Rattle.ssr_macro_arguments.proofs.expanding.reads.Given as goal

abbrev pub invariant-loop-one : goal.invariant-loop-one
invariant-loop-one l = l.reads.items ≡ reads_of l.yielded
