use Rattle.std.proofs.Common.{◌∙◌, arith}
use Rattle.ssr_macro_arguments.specs.Calls.{its_tree, IsArgumentAt}
use Rattle.ssr_macro_arguments.proofs.Between.{zip_next, all_taken}
use Rattle.ssr_macro_arguments.proofs.Spelled.{more_spelled}
use Rattle.ssr_macro_arguments.proofs.arguments.arguments_in_expansion.Goals as goal

pub loop-number-preserved : goal.loop-number-preserved
loop-number-preserved c = record {
  all =
      zip_next (IsArgumentAt (its_tree c.args.above.now.read)) _ _ _ c.loop-number.number-index _ (omega arith) c.in_ok-push.ensures.items
      c.loop-number.invariant.all (rw c.in-Some.is at c.in_ok-token.ensures.argument);
  spelled = λ text all.
      more_spelled text _ _ _ c.in_ok-push.ensures.items (c.loop-number.invariant.spelled text all) ((rw c.in-Some.is at c.in_ok-token.ensures.spells) text all);
}

pub returns-clause-all : goal.returns-clause-all
returns-clause-all c =
    all_taken (IsArgumentAt (its_tree c.args.above.now.read)) c.deref-number-items.result.now _ _ c.loop-number.number-index (omega arith)
    (c.deref-number-items.ensures.value ∙ c.in_ok-numbers.ensures.numbers) c.loop-number.invariant.all
