use Rattle.std.proofs.Common.{[], List, sym, ap, ◌∙◌}
use Rattle.std.specs.List.{list_any}
use Rattle.std.proofs.lemmas.List.{take_all}
use Rattle.ssr_syntax_kinds.specs.declared.range.TextRange.{TextRange}
use Rattle.std.specs.Prelude.{map}
use Rattle.ssr_base_trees.specs.Origins.{Span, span_of}
use Rattle.ssr_base_trees.specs.Changes.{Change}
use Rattle.ssr_set_aside.specs.Sparing.{touches}
use Rattle.ssr_changes.proofs.Matches.{one_fails, one_passes}
use Rattle.ssr_changes.proofs.matching.touches.Goals as goal

pub loop-reach-preserved : goal.loop-reach-preserved
loop-reach-preserved c =
    let here : Change = record { start = c.args.range.start; end = c.args.range.end; text = [] } in
    one_fails (touches here) span_of c.ranges-reach-items.result.now c.loop-reach.reach-index c.reach-item.result c.loop-reach-test.true c.reach-item.is
    c.loop-reach.invariant (sym c.if-touch.ensures)

pub returns-then-touch : goal.returns-then-touch
returns-then-touch c =
    let here : Change = record { start = c.args.range.start; end = c.args.range.end; text = [] } in
    sym (one_passes (touches here) span_of c.ranges-reach-items.result.now c.loop-reach.reach-index c.reach-item.result c.loop-reach-test.true c.reach-item.is
    (sym c.if-touch.ensures))
    ∙ ap (list_any (touches here)) c.ranges-reach-items.ensures.ranges

pub returns : goal.returns
returns c =
    let here : Change = record { start = c.args.range.start; end = c.args.range.end; text = [] } in
    sym c.loop-reach.invariant
    ∙ ap (λ (rs : List TextRange). list_any (touches here) (map span_of rs)) (take_all _ c.ranges-reach-items.result.now c.loop-reach-test.false)
    ∙ ap (list_any (touches here)) c.ranges-reach-items.ensures.ranges
