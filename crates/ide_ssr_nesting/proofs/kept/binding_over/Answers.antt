use Rattle.std.proofs.lemmas.Bool.{iff_false}
use Rattle.std.specs.Prelude.{option_map}
use Rattle.ssr_base_trees.specs.Workspace.{trees, file_span_of}
use Rattle.ide_ssr_nesting.proofs.Under.{binding_read, none_so_far, none_at_all}
use Rattle.ide_ssr_nesting.proofs.kept.binding_over.Goals as goal

pub returns-then-lies_in : goal.returns-then-lies_in
returns-then-lies_in c =
    (binding_read (trees c.args.workspace.now) c.args.k.now c.args.m.now c.bindings-binding-items.result.now c.loop-i.i c.node.result c.node-tree.result
    (file_span_of c.in_ok-range.range) (option_map file_span_of c.original_range-in-loop-i.result) c.lies_in.result c.bindings-binding-items.ensures c.node.ensures c.node-tree.ensures c.original_range-in-loop-i.ensures
    c.in_ok-range.ensures c.loop-i-test.true c.lies_in.ensures).0
    c.if-lies_in.true

pub loop-i-preserved : goal.loop-i-preserved
loop-i-preserved c =
    none_so_far (trees c.args.workspace.now) c.args.k.now c.args.m.now c.loop-i.i c.loop-i.invariant
    (iff_false
    (binding_read (trees c.args.workspace.now) c.args.k.now c.args.m.now c.bindings-binding-items.result.now c.loop-i.i c.node.result c.node-tree.result
    (file_span_of c.in_ok-range.range) (option_map file_span_of c.original_range-in-loop-i.result) c.lies_in.result c.bindings-binding-items.ensures c.node.ensures c.node-tree.ensures c.original_range-in-loop-i.ensures
    c.in_ok-range.ensures c.loop-i-test.true c.lies_in.ensures)
    c.if-lies_in.false)

pub returns : goal.returns
returns c =
    none_at_all (trees c.args.workspace.now) c.args.k.now c.args.m.now c.bindings-binding-items.result.now c.loop-i.i c.bindings-binding-items.ensures
    c.loop-i-test.false c.loop-i.invariant
