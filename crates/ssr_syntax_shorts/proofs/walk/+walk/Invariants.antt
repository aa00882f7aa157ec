use Rattle.std.proofs.Common.{◌+◌, ◌*◌}
use Rattle.ssr_syntax_tree.specs.Places.{node_of, size_of}
use Rattle.ssr_syntax_shorts.proofs.Listing.{IsListing, element_size}
use Rattle.ssr_syntax_shorts.proofs.walk.+walk.Given as goal

abbrev pub decreases-meets : goal.decreases-meets
decreases-meets l = 1 + 3 * size_of (node_of l.walk.now.tree.now l.asked.node.0)

abbrev pub decreases-are_met : goal.decreases-are_met
decreases-are_met l = 3 * size_of (node_of l.walk.now.tree.now l.spot.node.0)

abbrev pub decreases-next_turn : goal.decreases-next_turn
decreases-next_turn l = element_size l.walk.now.tree.now l.child

abbrev pub decreases-are_arguments : goal.decreases-are_arguments
decreases-are_arguments l = 3 * size_of (node_of l.walk.now.tree.now l.list.0)

abbrev pub invariant-are_arguments-loop-child : goal.invariant-are_arguments-loop-child
invariant-are_arguments-loop-child l = IsListing l.walk.tree.now l.walk.names.now l.fn.list.0 l.turn l.child-iterator
