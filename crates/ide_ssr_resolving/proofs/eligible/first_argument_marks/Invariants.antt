use Rattle.ide_ssr_resolving.specs.Private.Marks.{MarksFirstArguments}
use Rattle.ide_ssr_resolving.proofs.eligible.first_argument_marks.Given as goal

abbrev pub invariant-loop-number : goal.invariant-loop-number
invariant-loop-number l = MarksFirstArguments l.tree l.fn.calls l.number l.marks.items
