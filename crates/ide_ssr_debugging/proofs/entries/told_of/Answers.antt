use Rattle.std.proofs.Common.{length, refl, sym}
use Rattle.std.proofs.lemmas.Option.{slice_get-get_or}
use Rattle.ide_ssr_debugging.proofs.Telling.{told_turn}
use Rattle.ide_ssr_debugging.proofs.entries.told_of.Goals as goal

pub loop-node-preserved : goal.loop-node-preserved
loop-node-preserved g c =
    told_turn c.args.workspace.now (g.S.Semantics.meanings c.args.semantics.now) c.args.rules.now c.args.nodes.now c.loop-node.node-index _ c.in-Some.tree.now
    c.loop-node.told.items _ _ c.requires.in_order (slice_get-get_or c.args.nodes.now c.loop-node.node-index _ c.loop-node-test.true)
    (sym c.in-Some.ensures) c.loop-node.invariant c.in_ok-told_at.ensures c.in_ok-append.ensures.items
