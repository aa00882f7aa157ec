use Rattle.std.proofs.Common.{sym, arith}
use Rattle.ssr_base_trees.specs.Workspace.{trees}
use Rattle.ide_ssr_nesting.proofs.Compared.{call_known, other_tree, told_not, not_in_earlier, not_in_file, holds_call}
use Rattle.ide_ssr_nesting.proofs.order.+is_at_or_above.Goals as goal

pub returns-then-b-a : goal.returns-then-b-a
returns-then-b-a t c =
    told_not (not_in_earlier (trees c.args.workspace.now) c.requires.built.grown c.args.a c.args.b c.requires.a_in c.requires.b_in c.if-b-a.true)

pub is_at_or_above-requires : goal.is_at_or_above-requires
is_at_or_above-requires t c =
    let known = call_known (trees c.args.workspace.now) c.requires.built.grown c.args.b.tree c.in-Some.call c.in-Some.ensures in
    let less = known.1 in
    (omega arith, (c.requires.built, (c.requires.a_in, known.0)))

pub returns-in-Some : goal.returns-in-Some
returns-in-Some t c =
    holds_call (trees c.args.workspace.now) c.requires.built.grown c.args.a c.args.b c.requires.a_in c.requires.b_in c.in-Some.call
    c.is_at_or_above.result (other_tree c.args.b.tree c.args.a.tree (λ e. c.if-a-b.false (sym e)) c.if-b-a.false) c.in-Some.ensures c.is_at_or_above.ensures

pub returns-in-None : goal.returns-in-None
returns-in-None t c =
    told_not
    (not_in_file (trees c.args.workspace.now) c.requires.built.grown c.args.a c.args.b c.requires.a_in c.requires.b_in
    (other_tree c.args.b.tree c.args.a.tree (λ e. c.if-a-b.false (sym e)) c.if-b-a.false) c.in-None.ensures)
