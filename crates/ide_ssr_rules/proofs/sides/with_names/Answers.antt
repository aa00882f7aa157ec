use Rattle.std.proofs.Common.{Some, arith, ap, sym, ◌∙◌}
use Rattle.ide_ssr_rules.specs.Elements.{name_of}
use Rattle.ide_ssr_rules.proofs.Walking.{told_next, told_nothing}
use Rattle.ide_ssr_rules.proofs.sides.with_names.Goals as goal
use Rattle.ide_ssr_rules.proofs.sides.with_names.Goals.{in-Placeholder+in_ok-names, in_default}

pub loop-element-preserved : goal.loop-element-preserved
loop-element-preserved c =
    elim c.match-element.branch [
      | in-Placeholder+in_ok-names w ↦
          told_next name_of c.args.elements.now c.loop-element.element-index _ _ _ _ c.match-element.names (omega arith) c.element-item.is
          (ap name_of w.in-Placeholder.is ∙ ap Some (sym w.name.ensures)) c.loop-element.invariant (w.names-is ∙ w.in_ok-names.ensures)
      | in_default w ↦
          w.names-is
          ∙ told_nothing name_of c.args.elements.now c.loop-element.element-index _ _ _ (omega arith) c.element-item.is (ap name_of w.in_default.is)
          c.loop-element.invariant
    ]
