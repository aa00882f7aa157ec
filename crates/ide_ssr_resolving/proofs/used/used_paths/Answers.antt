use Rattle.std.proofs.Common.{sym, ◌∙◌, arith}
use Rattle.ide_ssr_resolving.proofs.Walk.{walked_enter, walked_pass, walked_use, walked_refuse, walked_all}
use Rattle.ide_ssr_resolving.proofs.used.used_paths.Goals as goal

pub loop-next-preserved-in-Enter : goal.loop-next-preserved-in-Enter
loop-next-preserved-in-Enter g c =
    walked_enter (g.S.Semantics.meanings c.args.semantics.now) c.args.scope c.args.names.now c.args.tree.now c.loop-next.next _
    (omega arith) c.loop-next.invariant (sym c.in-Enter.is ∙ c.in_ok-node_step.ensures)

pub loop-next-preserved-in-Pass : goal.loop-next-preserved-in-Pass
loop-next-preserved-in-Pass g c =
    walked_pass (g.S.Semantics.meanings c.args.semantics.now) c.args.scope c.args.names.now c.args.tree.now c.loop-next.next _ _
    (omega arith) c.loop-next.invariant (sym c.in-Pass.is ∙ c.in_ok-node_step.ensures) (omega arith)

pub loop-next-preserved : goal.loop-next-preserved
loop-next-preserved g c =
    walked_use (g.S.Semantics.meanings c.args.semantics.now) c.args.scope c.args.names.now c.args.tree.now c.loop-next.next _ _ _ c.in-Use.res
    (omega arith) c.loop-next.invariant (sym c.in-Use.is ∙ c.in_ok-node_step.ensures) c.nodes_below-next-in-Use.ensures.end c.in_ok-push-in-Use.ensures.items

pub returns-in-Refuse-clause-answers : goal.returns-in-Refuse-clause-answers
returns-in-Refuse-clause-answers g c =
    walked_refuse (g.S.Semantics.meanings c.args.semantics.now) c.args.scope c.args.names.now c.args.tree.now c.loop-next.next _
    (omega arith) c.loop-next.invariant (sym c.in-Refuse.is ∙ c.in_ok-node_step.ensures)

pub returns-clause-answers : goal.returns-clause-answers
returns-clause-answers g c =
    walked_all (g.S.Semantics.meanings c.args.semantics.now) c.args.scope c.args.names.now c.args.tree.now c.loop-next.next _
    (omega arith) c.loop-next.invariant
