use Rattle.std.proofs.Common.{arith}
use Rattle.ssr_base_trees.specs.Workspace.{trees}
use Rattle.ide_ssr_nesting.proofs.Compared.{precedes_in_tree, precedes_file, precedes_not_file, precedes_call, precedes_from_call, call_known, other_tree}
use Rattle.ide_ssr_nesting.proofs.order.+precedes.Goals as goal

pub returns-then-a-b : goal.returns-then-a-b
returns-then-a-b t c =
    precedes_in_tree (trees c.args.workspace.now) c.is_built.ensures.grown c.args.a c.args.b c.requires.a_in c.requires.b_in c.if-a-b.true

pub precedes-requires : goal.precedes-requires
precedes-requires t c =
    let known = call_known (trees c.args.workspace.now) c.is_built.ensures.grown c.args.b.tree c.in-Some.call c.in-Some.ensures in
    let less = known.1 in
    (omega arith, (known.0, c.requires.a_in))

pub precedes-requires-in-Some-call_of : goal.precedes-requires-in-Some-call_of
precedes-requires-in-Some-call_of t c =
    let known = call_known (trees c.args.workspace.now) c.is_built.ensures.grown c.args.a.tree c.in-Some-call_of.call c.in-Some-call_of.ensures in
    let less = known.1 in
    (omega arith, (known.0, c.requires.b_in))

pub returns-in-Some : goal.returns-in-Some
returns-in-Some t c =
    precedes_call (trees c.args.workspace.now) c.is_built.ensures.grown c.args.a c.args.b c.requires.a_in c.requires.b_in c.in-Some.call c.precedes.result
    c.if-a-b-2.true c.in-Some.ensures c.precedes.ensures

pub returns-in-None : goal.returns-in-None
returns-in-None t c =
    precedes_file (trees c.args.workspace.now) c.is_built.ensures.grown c.args.a c.args.b c.requires.a_in c.requires.b_in c.if-a-b-2.true c.in-None.ensures

pub returns-in-Some-call_of : goal.returns-in-Some-call_of
returns-in-Some-call_of t c =
    precedes_from_call (trees c.args.workspace.now) c.is_built.ensures.grown c.args.a c.args.b c.requires.a_in c.requires.b_in c.in-Some-call_of.call
    c.precedes-in-Some-call_of.result (other_tree c.args.a.tree c.args.b.tree c.if-a-b.false c.if-a-b-2.false) c.in-Some-call_of.ensures
    c.precedes-in-Some-call_of.ensures

pub returns-in-None-call_of : goal.returns-in-None-call_of
returns-in-None-call_of t c =
    precedes_not_file (trees c.args.workspace.now) c.is_built.ensures.grown c.args.a c.args.b c.requires.a_in c.requires.b_in
    (other_tree c.args.a.tree c.args.b.tree c.if-a-b.false c.if-a-b-2.false) c.in-None-call_of.ensures
