use Rattle.std.proofs.Common.{sym, ap, ◌∙◌}
use Rattle.std.specs.Prelude.{Some}
use Rattle.ide_ssr_resolved_rule.specs.Paths.{is_arguments}
use Rattle.ide_ssr_resolving.proofs.Children.{start_there, start_other}
use Rattle.ide_ssr_resolving.proofs.paths.arguments_start.Goals as goal

pub returns-then-is_arguments : goal.returns-then-is_arguments
returns-then-is_arguments c =
    ap Some c.tokens_below.ensures.start
    ∙ start_there c.args.tree.now c.args.child c.in-Node.node c.in-Node.is
    (ap is_arguments (sym c.kind.ensures) ∙ sym c.is_arguments.ensures ∙ c.if-is_arguments.true)

pub returns-else-is_arguments : goal.returns-else-is_arguments
returns-else-is_arguments c =
    start_other c.args.tree.now c.args.child c.in-Node.node c.in-Node.is
    (ap is_arguments (sym c.kind.ensures) ∙ sym c.is_arguments.ensures ∙ c.if-is_arguments.false)
