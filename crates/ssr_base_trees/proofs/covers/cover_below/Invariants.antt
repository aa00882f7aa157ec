use Rattle.std.proofs.Common.{map}
use Rattle.ssr_base_trees.specs.Origins.{plain_cover, plain_origin}
use Rattle.ssr_base_trees.proofs.CoverLaws.{Covers}
use Rattle.ssr_base_trees.proofs.covers.cover_below.Given as goal

abbrev pub invariant-loop-part : goal.invariant-loop-part
invariant-loop-part l = Covers l.tree (map plain_origin l.origins) l.fn.node.0 (plain_cover l.cover) l.part-iterator
