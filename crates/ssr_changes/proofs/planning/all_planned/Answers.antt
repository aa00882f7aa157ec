use Rattle.std.proofs.Common.{List, ◌+◌, take, subst, ap, sym, ◌∙◌}
use Rattle.std.proofs.lemmas.List.{take_all}
use Rattle.ssr_changes.specs.declared.changing.FileChange.{FileChange}
use Rattle.ssr_changes.specs.declared.planning.Planned.{Planned}
use Rattle.ssr_changes.specs.Private.Planning.{ArePlanned}
use Rattle.ssr_changes.proofs.Plans.{none_planned, one_planned}
use Rattle.ssr_changes.proofs.planning.all_planned.Goals as goal
use Rattle.ssr_changes.proofs.planning.all_planned.Goals.{in-Some+in_ok-push, in_default}

pub loop-change-preserved : goal.loop-change-preserved
loop-change-preserved c =
    let files = c.args.files.now.files in
    let made = c.args.made.now in
    let i = c.loop-change.change-index in
    let change = c.change-item.result in
    elim c.match-branch-2.branch [
      | in-Some+in_ok-push w ↦
          let its = rw w.in-Some.is at c.in_ok-planned.ensures in
          one_planned files made i change c.loop-change-test.true c.change-item.is c.loop-change.plan.items c.match-branch-2.plan.items w.in-Some.planned
          (ap (λ v. v.items) w.plan-is ∙ w.in_ok-push.ensures.items) its.0 its.1 its.2 c.loop-change.invariant
      | in_default w ↦
          let its = rw w.in_default.is at c.in_ok-planned.ensures in
          subst (λ (plan : List Planned). ArePlanned files (take (i + 1) made) plan) (sym (ap (λ v. v.items) w.plan-is))
          (none_planned files made i change c.loop-change-test.true c.change-item.is c.loop-change.plan.items its c.loop-change.invariant)
    ]

pub returns : goal.returns
returns c =
    subst (λ (made : List FileChange). ArePlanned c.args.files.now.files made c.loop-change.plan.items) (take_all _ c.args.made.now c.loop-change-test.false)
    c.loop-change.invariant
