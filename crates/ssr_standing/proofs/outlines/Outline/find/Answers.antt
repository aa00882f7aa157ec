use Rattle.std.proofs.Common.{◌∙◌, arith, ap, map}
use Rattle.ssr_base_trees.specs.Origins.{span_of}
use Rattle.ssr_standing.proofs.Alike.{hole_passed, none_left}
use Rattle.ssr_standing.proofs.outlines.Outline.find.Goals as goal

pub loop-self-preserved : goal.loop-self-preserved
loop-self-preserved c =
    hole_passed (map span_of c.loop-self.self.passing.places.now) (map span_of c.hole_of.new.self.places.now) c.loop-self.self.tree.now c.loop-self.self.node
    c.hole_of.result c.is_none.result (omega (arith, c.loop-self-test.true, c.node_count.ensures)) (ap (map span_of) c.hole_of.ensures.places)
    c.hole_of.ensures.answer c.is_none.ensures c.if-is_none.false
    ∙ c.loop-self.invariant

pub returns-clause-none : goal.returns-clause-none
returns-clause-none c = λ _.
    none_left (map span_of c.loop-self.self.passing.places.now) c.loop-self.self.tree.now c.loop-self.self.node (omega (arith, c.loop-self-test.false, c.node_count.ensures))
