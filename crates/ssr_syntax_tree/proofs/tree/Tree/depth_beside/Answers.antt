use Rattle.std.proofs.Common.{◌≡◌, ap, arith}
use Rattle.ssr_syntax_tree.specs.Places.{node_of, depth_at}
use Rattle.ssr_syntax_tree.proofs.Places.{depth_at-parent, depth_at_le}
use Rattle.ssr_syntax_tree.proofs.tree.Tree.depth_beside.Goals as goal

pub returns-then-row-other : goal.returns-then-row-other
returns-then-row-other c =
    let syntax = c.args.self.now in
    let node = c.args.node.0 in
    let parent : (node_of syntax node).parent ≡ c.args.other.0 = cc in
    omega (arith, c.requires.known, ap (depth_at syntax) parent, depth_at-parent syntax node c.requires.has c.if-node-gt0.true)

pub overflow_add-result : goal.overflow_add-result
overflow_add-result c =
    let syntax = c.args.self.now in
    let node = c.args.node.0 in
    let parent : (node_of syntax node).parent ≡ c.args.other.0 = cc in
    omega (arith, c.requires.known, ap (depth_at syntax) parent, depth_at-parent syntax node c.requires.has c.if-node-gt0.true, depth_at_le syntax node c.requires.has)
