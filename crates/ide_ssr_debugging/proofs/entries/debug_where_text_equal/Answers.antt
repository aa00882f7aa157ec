use Rattle.std.proofs.Common.{All, AllPairs, sym, subst}
use Rattle.ssr_base_trees.specs.Workspace.{trees}
use Rattle.ssr_base_trees.specs.Built.{IsNodeOf}
use Rattle.ide_ssr_debugging.specs.Debugging.{NodeBefore, IsShown}
use Rattle.ide_ssr_debugging.proofs.Showing.{shown_nodes}
use Rattle.ide_ssr_debugging.proofs.Telling.{ok_told}
use Rattle.ide_ssr_debugging.proofs.entries.debug_where_text_equal.Goals as goal

pub told_of-requires-clause-nodes : goal.told_of-requires-clause-nodes
told_of-requires-clause-nodes g c =
    subst (All (IsNodeOf (trees c.args.workspace.now))) (sym c.deref.ensures.value)
    (shown_nodes c.args.workspace.now c.args.file c.args.snippet.now c.in_ok-nodes.nodes.items c.in_ok-nodes.ensures.are)

pub told_of-requires-clause-in_order : goal.told_of-requires-clause-in_order
told_of-requires-clause-in_order g c =
    subst (AllPairs (NodeBefore (trees c.args.workspace.now))) (sym c.deref.ensures.value) c.in_ok-nodes.ensures.in_order

pub returns : goal.returns
returns g c =
    ok_told c.args.workspace.now (g.S.Semantics.meanings c.args.semantics.now) c.args.rules.now (λ v. v.items) c.deref.result.now c.args.file c.args.snippet.now c.told_of.result
    (λ x. rw c.deref.ensures.value (c.in_ok-nodes.ensures.are x)) c.told_of.ensures
