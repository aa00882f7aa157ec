use Rattle.std.proofs.Common.{sym, ◌∙◌, true}
use Rattle.ssr_syntax_tree.specs.Places.{node_of}
use Rattle.ide_ssr_resolving.proofs.Steps.{resolved_step}
use Rattle.ide_ssr_resolving.proofs.used.path_step.Goals as goal

pub returns-then-is_usable : goal.returns-then-is_usable
returns-then-is_usable g c =
    resolved_step (g.S.Semantics.meanings c.args.semantics.now) c.args.scope c.args.names.now (node_of c.args.tree.now c.args.path.0).children
    c.in-Some.res true (sym c.if-not-branch.false ∙ c.in_ok-is_whole.ensures) (sym c.in-Some.is ∙ c.in_ok-res.ensures) (sym c.if-is_usable.true ∙ c.is_usable.ensures)
