use Rattle.ssr_base_trees.specs.Workspace.{trees, node_id}
use Rattle.ide_ssr_nesting.specs.Kept.{IsShadowed}
use Rattle.ide_ssr_search.proofs.Opening.{not_shut}
use Rattle.ide_ssr_search.proofs.Finding.{found_nothing, stays_shadowed}
use Rattle.ide_ssr_search.proofs.Counting.{kept_none, kept_node}
use Rattle.ide_ssr_search.proofs.scan.TreeScan.add_at.Goals as goal

pub returns-then-shut-clause-found : goal.returns-then-shut-clause-found
returns-then-shut-clause-found g c =
    let scan = c.args.self.now.known in
    let w = scan.workspace.now in
    found_nothing w (g.S.Semantics.meanings c.args.self.now.semantics.now) scan.context.now c.args.self.now.rules.now.rules.now c.args.self.now.rules.now.wanted.now (IsShadowed (trees w)) (stays_shadowed w) scan.number c.args.node.0 c.args.found.now.items
    (λ is. not_shut w scan.context.now.restrictions (node_id scan.number c.args.node.0) is (c.requires.shut.0 c.if-shut.true)) c.requires.found

pub returns-then-shut-clause-count : goal.returns-then-shut-clause-count
returns-then-shut-clause-count g c =
    let scan = c.args.self.now.known in
    let w = scan.workspace.now in
    let context = scan.context.now in
    let rules = c.args.self.now.rules.now.rules.now in
    let wanted = c.args.self.now.rules.now.wanted.now in
    let n = c.args.node.0 in
    kept_node w context rules wanted scan.number n scan.number n 0 c.args.tries.now c.args.tries.now (kept_none w context rules wanted scan.number n c.args.tries.now)
