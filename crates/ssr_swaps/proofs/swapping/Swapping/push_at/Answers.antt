use Rattle.std.proofs.Common.{arith, map, sym}
use Rattle.ssr_swaps.specs.Swapped.{swap_at}
use Rattle.ssr_swaps.specs.Private.Marks.{shown}
use Rattle.ssr_swaps.proofs.Left.{goes_kept, goes_swapped}
use Rattle.ssr_swaps.proofs.swapping.Swapping.push_at.Goals as goal

pub returns-in_ok-push_tree-in-Some : goal.returns-in_ok-push_tree-in-Some
returns-in_ok-push_tree-in-Some c =
    goes_swapped (swap_at c.args.self.now.swaps.now) c.args.self.now.tree.now c.in-Some.swap.now.tree c.args.number _
    (map shown c.args.marks.now.items) (map shown c.push_tree.new.marks.items) c.requires (sym c.in-Some.ensures) (omega arith) c.in_ok-push_tree-in-Some.ensures

pub returns-in_ok-push_node-in-None : goal.returns-in_ok-push_node-in-None
returns-in_ok-push_node-in-None c =
    goes_kept (swap_at c.args.self.now.swaps.now) c.args.self.now.tree.now c.args.number
    (map shown c.args.marks.now.items) (map shown c.push_node.new.marks.items) c.requires (sym c.in-None.ensures) c.in_ok-push_node-in-None.ensures
