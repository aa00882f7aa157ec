use Rattle.std.proofs.Common.{rules}
use Rattle.std.proofs.lemmas.Fn.{always_returns_same}
use Rattle.ssr_base_trees.specs.Workspace.{trees}
use Rattle.ide_ssr_debugging.specs.Private.Order.{is_ahead}
use Rattle.ide_ssr_debugging.proofs.Ahead.{ahead_order}
use Rattle.ide_ssr_debugging.proofs.Sorted.{sorted_in_order, same_nodes_sorted}
use Rattle.ide_ssr_debugging.proofs.order.put_in_order.Goals as goal

pub returns-clause-in_order : goal.returns-clause-in_order
returns-clause-in_order c =
    let ts = trees c.args.workspace.now in
    let up = c.sort_unstable_by.ensures.sorted (is_ahead ts) (ahead_order ts) (always_returns_same _ _ _ (λ a r f' k. search rules)) in
    sorted_in_order ts (c.ordering.ensures.one c.args.workspace.now c.requires.built) c.args.nodes.now.items c.sort_unstable_by.new.self.items
    c.requires.nodes c.requires.once c.sort_unstable_by.ensures.permutation up

pub returns-clause-same : goal.returns-clause-same
returns-clause-same c = same_nodes_sorted c.args.nodes.now.items c.sort_unstable_by.new.self.items c.sort_unstable_by.ensures.permutation
