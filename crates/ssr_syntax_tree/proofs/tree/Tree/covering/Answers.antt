use Rattle.std.proofs.Common.{arith, rules}
use Rattle.ssr_syntax_tree.proofs.Covering.{root_holds, best_root, best_same, best_deeper, best_past}
use Rattle.ssr_syntax_tree.proofs.tree.Tree.covering.Goals.{then-depth-own_depth, else-depth-own_depth}
use Rattle.ssr_syntax_tree.proofs.tree.Tree.covering.Goals as goal

pub returns-then-not-holds-clause-none : goal.returns-then-not-holds-clause-none
returns-then-not-holds-clause-none c = λ n h held.
    let root = c.if-not-holds.ensures.1 (root_holds c.args.self.now c.args.range n h held) in
    cc

pub loop-next-init : goal.loop-next-init
loop-next-init c = best_root c.args.self.now c.args.range (c.if-not-holds.ensures.0 (search rules))

pub loop-next-preserved-then-holds : goal.loop-next-preserved-then-holds
loop-next-preserved-then-holds c =
    let best = c.loop-next.invariant in
    let own = c.depth_beside-own_depth.ensures in
    elim c.if-depth-own_depth.branch [
      | then-depth-own_depth w ↦
          rw (w.found-is, w.depth-is, own)
          (best_deeper c.args.self.now c.args.range c.loop-next.next c.loop-next.found.0 c.loop-next.depth best (omega arith) (c.if-holds.ensures.0 (search rules)) (omega (arith, own, w.if-depth-own_depth.true)))
      | else-depth-own_depth w ↦
          rw (w.found-is, w.depth-is) (best_same c.args.self.now c.args.range c.loop-next.next c.loop-next.found.0 c.loop-next.depth best (omega arith) (omega (arith, own, w.if-depth-own_depth.false)))
    ]

pub loop-next-preserved : goal.loop-next-preserved
loop-next-preserved c =
    best_past c.args.self.now c.args.range c.loop-next.next c.loop-next.found.0 c.loop-next.depth c.nodes_below-next.result.end c.loop-next.invariant (omega arith)
    (λ held. let holds = c.if-holds.ensures.1 held in cc)
    c.nodes_below-next.ensures.end
    c.nodes_below-next.ensures.has
