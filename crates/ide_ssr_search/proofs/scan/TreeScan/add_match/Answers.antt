use Rattle.std.proofs.Common.{ap, ◌∙◌}
use Rattle.ide_ssr_bindings.specs.Found.{FoundMatch}
use Rattle.ssr_base_trees.specs.Workspace.{node_id}
use Rattle.ide_ssr_search.proofs.Finding.{shadows_later}
use Rattle.ide_ssr_search.proofs.scan.TreeScan.add_match.Goals as goal

pub returns-clause-shadows : goal.returns-clause-shadows
returns-clause-shadows g c =
    let scan = c.args.self.now.known in
    let one = c.new-m.result in
    shadows_later scan.workspace.now c.args.found.now.items c.push.new.self.items one (node_id scan.number c.args.node.0) c.args.one.place c.holds_own_node-shadows.result c.in_ok-push.ensures.items
    (ap (λ (m : FoundMatch). m.node) c.new-m.ensures ∙ c.id.ensures) (ap (λ (m : FoundMatch). m.rule) c.new-m.ensures) c.holds_own_node-shadows.ensures
