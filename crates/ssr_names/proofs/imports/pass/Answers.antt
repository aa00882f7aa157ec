use Rattle.std.proofs.Common.{◌≡◌, length, subst, arith}
use Rattle.std.proofs.lemmas.Bool.{or_parts}
use Rattle.ssr_names.specs.Settled.{IsSettledAt}
use Rattle.ssr_names.specs.Private.Settling.{turned}
use Rattle.ssr_names.proofs.Settling.{all_turned, answered_on, settled_next, settled_within}
use Rattle.ssr_names.proofs.imports.pass.Goals as goal

pub loop-step-preserved : goal.loop-step-preserved
loop-step-preserved c =
    let l = c.loop-step in
    let fn = c.args.space.now in
    let new = c.renew.new.space in
    record {
      answered = answered_on fn l.space new l.invariant.answered c.in_ok-is_new.ensures.answered;
      settled = λ same.
          let both = or_parts l.is_changed c.in_ok-is_new.is_new same in
          let more = c.in_ok-is_new.ensures.settled both.1 in
          settled_next (turned c.args.is_backward c.len-count.result) fn l.space new l.step (more.0, subst (IsSettledAt l.space) c.turned.ensures more.1) (l.invariant.settled both.0);
    }

pub returns-clause-settled : goal.returns-clause-settled
returns-clause-settled c = λ same.
    let fn = c.args.space.now in
    let count = c.len-count.result in
    let all : count ≡ length fn.answers.items = omega (arith, c.len-count.ensures, fn.answers.ok.0) in
    let had = c.loop-step.invariant.settled same in (
      had.0,
      settled_within fn count all
          (λ place within. all_turned (IsSettledAt fn) c.args.is_backward count place within (λ step less. had.1 step (omega (arith, c.loop-step-test.false)))),
    )
