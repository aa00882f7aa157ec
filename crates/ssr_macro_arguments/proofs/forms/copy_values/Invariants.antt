use Rattle.std.proofs.Common.{◌≡◌, ◌+◌, ◌≤◌, ◌++◌, length}
use Rattle.ssr_macro_arguments.specs.Private.Tokens.{written}
use Rattle.ssr_macro_arguments.specs.Arguments.{pieces}
use Rattle.ssr_macro_arguments.specs.Forms.{values_from, values}
use Rattle.ssr_macro_arguments.proofs.forms.copy_values.Given as goal

abbrev pub invariant-loop-token : goal.invariant-loop-token
invariant-loop-token l = record {
  so_far : written l.writer ++ pieces (values_from 0 l.depth l.rest) ≡ written l.initial.writer ++ pieces (values l.arguments);
  shallow : l.depth + length l.rest ≤ length l.arguments;
}

abbrev pub decreases-loop-token : goal.decreases-loop-token
decreases-loop-token l = length l.rest
