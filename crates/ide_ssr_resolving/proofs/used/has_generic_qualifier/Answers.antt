use Rattle.std.proofs.Common.{map, ap, sym, ◌∙◌}
use Rattle.std.specs.List.{list_any}
use Rattle.ide_ssr_resolving.specs.Private.Parts.{below}
use Rattle.ide_ssr_resolving.specs.Used.{has_generics}
use Rattle.ide_ssr_resolving.proofs.Pieces.{no_node, any_passed, any_found, any_none}
use Rattle.ide_ssr_resolving.proofs.used.has_generic_qualifier.Goals as goal

pub loop-segment-init : goal.loop-segment-init
loop-segment-init c =
    ap (list_any has_generics) (ap (map (below c.args.tree.now)) c.deref-segment-items.ensures.value ∙ c.in_ok-segments.ensures.below)

pub returns-then-has_generics : goal.returns-then-has_generics
returns-then-has_generics c =
    any_found has_generics (below c.args.tree.now) c.deref-segment-items.result.now c.loop-segment.segment-index no_node _ c.loop-segment-test.true
    (sym c.has_generics.ensures ∙ c.if-has_generics.true) c.loop-segment.invariant

pub loop-segment-preserved : goal.loop-segment-preserved
loop-segment-preserved c =
    any_passed has_generics (below c.args.tree.now) c.deref-segment-items.result.now c.loop-segment.segment-index no_node _ c.loop-segment-test.true
    (sym c.has_generics.ensures ∙ c.if-has_generics.false) c.loop-segment.invariant

pub returns : goal.returns
returns c =
    any_none has_generics (below c.args.tree.now) c.deref-segment-items.result.now c.loop-segment.segment-index _ c.loop-segment-test.false
    c.loop-segment.invariant
