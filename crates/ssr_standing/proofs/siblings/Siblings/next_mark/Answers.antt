use Rattle.std.proofs.Common.{◌∙◌, map}
use Rattle.ssr_base_trees.specs.Origins.{span_of}
use Rattle.ssr_standing.proofs.siblings.Siblings.next_mark.Goals as goal

pub returns-clause-none : goal.returns-clause-none
returns-clause-none c =
    c.loop-child.invariant.same
    ∙ c.in_default.ensures.none.marks (map span_of c.loop-child.self.passing.places.now) c.loop-child.self.joined c.loop-child.self.before
