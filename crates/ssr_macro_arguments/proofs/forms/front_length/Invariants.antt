use Rattle.std.proofs.Common.{◌≡◌, ◌+◌, ◌≤◌, length}
use Rattle.ssr_macro_arguments.specs.Forms.{front_length}
use Rattle.ssr_macro_arguments.proofs.forms.front_length.Given as goal

abbrev pub invariant-loop-token : goal.invariant-loop-token
invariant-loop-token l = record {
  so_far : l.count + front_length l.mark l.depth l.rest ≡ front_length l.mark 0 l.arguments;
  all : l.count + length l.rest ≡ length l.arguments;
  shallow : l.depth ≤ l.count;
}

abbrev pub decreases-loop-token : goal.decreases-loop-token
decreases-loop-token l = length l.rest
