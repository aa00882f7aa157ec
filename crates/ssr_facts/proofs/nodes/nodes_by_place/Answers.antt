use Rattle.std.proofs.Common.{arith}
use Rattle.ssr_facts.specs.Nodes.{node_at}
use Rattle.ssr_facts.specs.Private.Nodes.{at_place}
use Rattle.ssr_facts.proofs.ByTree.{tree_all}
use Rattle.ssr_facts.proofs.Places.{no_node_past}
use Rattle.ssr_facts.proofs.nodes.nodes_by_place.Goals as goal

pub returns : goal.returns
returns c =
    λ place. tree_all place.tree c.loop-number.number (node_at c.args.workspace.now c.args.kind place) (at_place c.loop-number.nodes place) (c.loop-number.invariant place)
    (λ past. no_node_past c.args.workspace.now c.args.kind place (omega (arith, past, c.loop-number-test.false, c.tree_count-count.ensures)))
