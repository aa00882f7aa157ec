use Rattle.std.proofs.Common.{◌≡◌, sym}
use Rattle.ssr_base_trees.specs.Workspace.{trees, above, node_id}
use Rattle.ide_ssr_search.proofs.Calls.{earlier_if, ground_shut, ground_inside}
use Rattle.ide_ssr_search.proofs.known_tree.KnownTree.new.Goals as goal

pub is_shut-requires-clause-call : goal.is_shut-requires-clause-call
is_shut-requires-clause-call c = earlier_if c.args.workspace.now c.requires.built c.args.number c.above-call.result c.above-call.ensures

pub is_inside-requires-clause-call : goal.is_inside-requires-clause-call
is_inside-requires-clause-call c = earlier_if c.args.workspace.now c.requires.built c.args.number c.above-call.result c.above-call.ensures

pub returns-clause-known : goal.returns-clause-known
returns-clause-known c =
    let ts = trees c.args.workspace.now in
    let root = node_id c.args.number 0 in
    let call = c.above-call.result in
    let up : above ts root ≡ call = sym c.above-call.ensures in
    record {
      built = c.requires.built;
      tree = c.requires.tree;
      bounds = c.of.ensures;
      shut = ground_shut ts root call c.is_shut.result up c.is_shut.ensures;
      inside = ground_inside ts root call c.args.context.now.function c.is_inside.result up c.is_inside.ensures;
    }
