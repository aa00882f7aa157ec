use Rattle.std.proofs.Common.{[], Some, arith, ap, sym, ◌∙◌}
use Rattle.ide_ssr_rules.specs.Elements.{constraints_at}
use Rattle.ide_ssr_rules.proofs.Walking.{told_next, told_nothing}
use Rattle.ide_ssr_rules.proofs.rules.constraints_of.Goals as goal
use Rattle.ide_ssr_rules.proofs.rules.constraints_of.Goals.{in-Placeholder+in_ok-constraints+in_ok-push, in_default}

pub loop-element-preserved : goal.loop-element-preserved
loop-element-preserved c =
    elim c.match-element.branch [
      | in-Placeholder+in_ok-constraints+in_ok-push w ↦ told_next constraints_at c.args.elements.now c.loop-element.element-index _ _ [] _ c.match-element.sets.items (omega arith) c.element-item.is
          (ap constraints_at w.in-Placeholder.is ∙ ap Some (sym w.in_ok-constraints.ensures)) c.loop-element.invariant (ap (λ v. v.items) w.sets-is ∙ w.in_ok-push.ensures.items)
      | in_default w ↦ ap (λ v. v.items) w.sets-is ∙ told_nothing constraints_at c.args.elements.now c.loop-element.element-index _ [] _ (omega arith) c.element-item.is (ap constraints_at w.in_default.is) c.loop-element.invariant
    ]
