use Rattle.std.proofs.Common.{sym, ap, ◌∙◌}
use Rattle.ssr_syntax_kinds.specs.Kinds.{same_kind}
use Rattle.ide_ssr_resolved_rule.proofs.Children.{node_there, node_other}
use Rattle.ide_ssr_resolved_rule.proofs.paths.node_of_kind.Goals as goal

pub returns-then-is-clause-node : goal.returns-then-is-clause-node
returns-then-is-clause-node c =
    node_there c.args.tree.now c.args.kind c.args.child c.in-Node.node c.in-Node.is
    (ap (λ own. same_kind own c.args.kind) (sym c.kind.ensures) ∙ sym c.is.ensures.same ∙ c.if-is.true)

pub returns-else-is-clause-node : goal.returns-else-is-clause-node
returns-else-is-clause-node c =
    node_other c.args.tree.now c.args.kind c.args.child c.in-Node.node c.in-Node.is
    (ap (λ own. same_kind own c.args.kind) (sym c.kind.ensures) ∙ sym c.is.ensures.same ∙ c.if-is.false)
