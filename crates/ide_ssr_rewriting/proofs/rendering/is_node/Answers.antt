use Rattle.std.proofs.Common.{arith, sym}
use Rattle.ide_ssr_rewriting.proofs.Templates.{is_node-found, is_node-missing, none_up_to}
use Rattle.ide_ssr_rewriting.proofs.rendering.is_node.Goals as goal

pub returns-then-is_range : goal.returns-then-is_range
returns-then-is_range c =
    sym (is_node-found c.args.tree.now c.args.front c.args.from c.args.to c.loop-node.node (omega arith)
    (rw (← c.range-range.ensures.start, ← c.range-range.ensures.end) (sym c.if-is_range.ensures)))

pub loop-node-preserved : goal.loop-node-preserved
loop-node-preserved c =
    none_up_to c.args.tree.now c.args.front c.args.from c.args.to c.loop-node.node c.below_unless.result c.holds_range.result (omega arith)
    (rw (← c.range-range.ensures.start, ← c.range-range.ensures.end) c.holds_range.ensures)
    c.below_unless.ensures.count
    (rw (← c.range-range.ensures.start, ← c.range-range.ensures.end) (sym c.if-is_range.ensures))
    c.loop-node.invariant

pub returns : goal.returns
returns c = sym (is_node-missing c.args.tree.now c.args.front c.args.from c.args.to (λ n h. c.loop-node.invariant n (omega arith)))
