use Rattle.std.proofs.Common.{arith, map, string_bytes, subst, sym, ap, ◌∙◌}
use Rattle.ssr_syntax_tree.specs.Places.{HasNode, node_of}
use Rattle.ide_ssr_resolved_rule.specs.Placeholders.{placeholder_at}
use Rattle.ide_ssr_resolved_rule.specs.Resolved.{ResolvedRule}
use Rattle.ide_ssr_resolved_rule.proofs.Nodes.{table_long, table_at}
use Rattle.ide_ssr_resolved_rule.proofs.resolved.ResolvedRule.placeholder.Goals as goal

pub index-requires : goal.index-requires
index-requires c =
    let has : HasNode c.self.inside.parts.pattern c.args.node.0 = subst (λ (rule : ResolvedRule). HasNode rule.pattern c.args.node.0) (sym c.self.view_is) c.requires in
    let long = table_long (map string_bytes c.self.inside.parts.names.items) c.self.inside.parts.pattern c.self.inside.tables.in_pattern.items c.args.node.0 c.self.invariant.in_pattern has in
    omega (arith, long)

pub returns : goal.returns
returns c =
    let has : HasNode c.self.inside.parts.pattern c.args.node.0 = subst (λ (rule : ResolvedRule). HasNode rule.pattern c.args.node.0) (sym c.self.view_is) c.requires in
    table_at (map string_bytes c.self.inside.parts.names.items) c.self.inside.parts.pattern c.self.inside.tables.in_pattern.items c.args.node.0 _ c.self.invariant.in_pattern has c.index.ensures
    ∙ ap (λ (rule : ResolvedRule). placeholder_at rule.names (node_of rule.pattern c.args.node.0)) c.self.view_is
