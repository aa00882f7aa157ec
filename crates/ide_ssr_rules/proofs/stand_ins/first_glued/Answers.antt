use Rattle.std.proofs.Common.{Some, ap, ◌∙◌, sym}
use Rattle.std.proofs.lemmas.List.{take_rest}
use Rattle.ide_ssr_rules.specs.StandIns.{first_name}
use Rattle.ide_ssr_rules.proofs.StandIns.{glued_here, glued_behind}
use Rattle.ide_ssr_rules.proofs.stand_ins.first_glued.Goals as goal

pub returns-then-not-is_read_at : goal.returns-then-not-is_read_at
returns-then-not-is_read_at c tokens lexes =
    ap (λ name. Some name) c.first_name.ensures
    ∙ ap (λ es. Some (first_name es)) (take_rest c.args.elements.now c.loop-place.place)
    ∙ sym (glued_here c.args.elements.now tokens c.loop-place.place c.index-elements-place.result c.loop-place-test.true c.index-elements-place.is
    (sym (c.is_read_at.ensures tokens lexes) ∙ c.if-not-is_read_at.true))
    ∙ c.loop-place.invariant tokens lexes

pub loop-place-preserved : goal.loop-place-preserved
loop-place-preserved c tokens lexes =
    sym (glued_behind c.args.elements.now tokens c.loop-place.place c.index-elements-place.result c.loop-place-test.true c.index-elements-place.is
    (sym (c.is_read_at.ensures tokens lexes) ∙ c.if-not-is_read_at.false))
    ∙ c.loop-place.invariant tokens lexes
