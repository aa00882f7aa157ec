use Rattle.std.proofs.Common.{ap, map}
use Rattle.ssr_base_trees.specs.Origins.{span_of}
use Rattle.ssr_standing.proofs.SiblingMarks.{marked}
use Rattle.ssr_standing.proofs.siblings.Siblings.mark_of.Goals as goal

pub returns-clause-marks : goal.returns-clause-marks
returns-clause-marks c =
    let s = c.args.self.now in
    marked (map span_of s.passing.places.now) (map span_of c.hole_of-hole.new.self.places.now) s.tree.now s.joined s.before c.hole_of-hole.result c.args.child s.left
    c.mark_of-mark.result (ap (map span_of) c.hole_of-hole.ensures.places) c.requires.solid c.hole_of-hole.ensures.answer c.mark_of-mark.ensures.shown
