use Rattle.std.proofs.Common.{◌∙◌, arith}
use Rattle.ssr_syntax_tree.specs.Syntax.{source_of}
use Rattle.ssr_macro_arguments.specs.Calls.{file, IsArgumentAt}
use Rattle.ssr_macro_arguments.proofs.Between.{zip_next, all_taken}
use Rattle.ssr_macro_arguments.proofs.Spelled.{more_spelled}
use Rattle.ssr_macro_arguments.proofs.arguments.arguments_in_file.Goals as goal

pub loop-number-preserved : goal.loop-number-preserved
loop-number-preserved c = record {
  all =
      zip_next (IsArgumentAt (file c.args.tree.now)) _ _ _ c.loop-number.number-index _ (omega arith) c.in_ok-push.ensures.items
      c.loop-number.invariant.all c.in_ok-token.ensures.argument;
  spelled = more_spelled (source_of c.args.tree.now) _ _ _ c.in_ok-push.ensures.items c.loop-number.invariant.spelled c.in_ok-token.ensures.spells;
}

pub returns-clause-all : goal.returns-clause-all
returns-clause-all c =
    all_taken (IsArgumentAt (file c.args.tree.now)) c.deref-number-items.result.now _ _ c.loop-number.number-index (omega arith)
    (c.deref-number-items.ensures.value ∙ c.in_ok-numbers.ensures.numbers) c.loop-number.invariant.all
