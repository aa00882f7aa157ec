use Rattle.std.proofs.Common.{◌≡◌, ◌∙◌, ◌+◌, Option, false, subst, sym, arith}
use Rattle.ssr_syntax_tree.specs.Places.{HasNode, node_of}
use Rattle.ssr_syntax_tree.specs.declared.number.NodeNo.{NodeNo}
use Rattle.ssr_base_trees.specs.Origins.{Span, span_of}
use Rattle.ssr_standing.proofs.Nearest.{IsLast, has_it, next_looked_at, none_left, none_yet, past_below}
use Rattle.ssr_standing.proofs.near.nearest_block.Goals as goal

pub loop-next-init : goal.loop-next-init
loop-next-init c = none_yet c.args.tree.now (span_of c.args.range)

pub loop-next-preserved-then-has : goal.loop-next-preserved-then-has
loop-next-preserved-then-has c =
    let tree = c.args.tree.now in
    let place : Span = span_of c.args.range in
    subst (λ (found : Option NodeNo). IsLast tree place found (c.loop-next.next + 1)) (sym c.nearer-found.ensures)
    (next_looked_at tree place c.loop-next.found (record { 0 = c.loop-next.next }) (omega arith) c.loop-next.invariant)

pub loop-next-preserved : goal.loop-next-preserved
loop-next-preserved c =
    let tree = c.args.tree.now in
    let place : Span = span_of c.args.range in
    let there : HasNode tree c.loop-next.next = omega arith in
    let lacks : has_it tree place (node_of tree c.loop-next.next) ≡ false =
    rw (← c.range.ensures.start, ← c.range.ensures.end) (sym c.has.ensures ∙ c.if-has.false) in
    past_below tree place c.nearer-found.result c.loop-next.next c.nodes_below-next.result.end there lacks c.nodes_below-next.ensures.end
    c.nodes_below-next.ensures.has
    (subst (λ (found : Option NodeNo). IsLast tree place found (c.loop-next.next + 1)) (sym c.nearer-found.ensures)
    (next_looked_at tree place c.loop-next.found (record { 0 = c.loop-next.next }) there c.loop-next.invariant))

pub returns : goal.returns
returns c =
    let tree = c.args.tree.now in
    let place : Span = span_of c.args.range in
    record {
      block = none_left tree place c.loop-next.found c.loop-next.next (omega arith) c.loop-next.invariant;
      has = c.loop-next.invariant.has;
      around = c.loop-next.invariant.around;
    }
