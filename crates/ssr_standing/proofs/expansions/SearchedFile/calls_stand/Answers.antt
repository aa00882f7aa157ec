use Rattle.std.proofs.Common.{◌∙◌, ap, map}
use Rattle.ssr_base_trees.specs.Origins.{span_of}
use Rattle.ssr_standing.proofs.expansions.SearchedFile.calls_stand.Goals as goal

pub invariant_of-edited : goal.invariant_of-edited
invariant_of-edited c = record {
  placed = ap (map span_of) c.deref.ensures.value ∙ c.in_ok-ranges.ensures.ranges;
  unchanged = c.in_ok-old.ensures;
}
