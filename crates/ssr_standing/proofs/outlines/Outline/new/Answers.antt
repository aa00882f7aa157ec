use Rattle.std.proofs.Common.{List, ap, map}
use Rattle.std.specs.Prelude.{flat_map}
use Rattle.ssr_syntax_kinds.specs.declared.range.TextRange.{TextRange}
use Rattle.ssr_syntax_tree.specs.Places.{nodes_of}
use Rattle.ssr_base_trees.specs.Origins.{span_of}
use Rattle.ssr_standing.specs.Around.{around, outlined}
use Rattle.ssr_standing.proofs.outlines.Outline.new.Goals as goal

pub returns : goal.returns
unfolding around
returns c = ap (λ (places : List TextRange). flat_map (outlined (map span_of places) c.args.tree.now) (nodes_of c.args.tree.now)) c.new.ensures
