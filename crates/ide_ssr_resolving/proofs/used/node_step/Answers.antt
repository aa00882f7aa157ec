use Rattle.std.proofs.Common.{ap, sym, ◌∙◌}
use Rattle.ssr_syntax_kinds.specs.declared.kinds.SyntaxKind.TheVariants as k
use Rattle.ssr_syntax_kinds.specs.Kinds.{same_kind}
use Rattle.ssr_syntax_tree.specs.Places.{node_of}
use Rattle.ide_ssr_resolving.proofs.Steps.{steps_at_path}
use Rattle.ide_ssr_resolving.proofs.used.node_step.Goals as goal

pub returns : goal.returns
returns g c =
    steps_at_path (g.S.Semantics.meanings c.args.semantics.now) c.args.scope c.args.names.now (node_of c.args.tree.now c.args.node.0)
    c.in_ok-step.step (sym c.if-not-is.false ∙ c.is.ensures.same ∙ ap (λ kind. same_kind kind k.PATH) c.kind.ensures)
    (sym c.if-ends_in_self.false ∙ c.ends_in_self.ensures) c.in_ok-step.ensures
