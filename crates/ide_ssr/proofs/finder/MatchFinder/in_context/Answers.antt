use Rattle.std.proofs.Common.{Err, arith, rules, subst}
use Rattle.std.proofs.lemmas.Grind.{common_steps}
use Rattle.ssr_base_trees.specs.Workspace.{Workspace}
use Rattle.ide_ssr_search.specs.Making.{Makes}
use Rattle.ide_ssr.proofs.finder.MatchFinder.in_context.Goals as goal

pub returns-in-Ok : goal.returns-in-Ok
returns-in-Ok g c = first_of (search rules steps 110000, grind (arith, common_steps) steps 110000)

pub returns-in-Err : goal.returns-in-Err
returns-in-Err g c = (
  c.in-Err.refusal,
  subst (λ (w : Workspace). Makes w (g.S.Semantics.meanings c.args.semantics.now) c.args.position c.args.restrictions.items (Err c.in-Err.refusal)) c.trees-trees.ensures.same c.in-Err.ensures,
  c.to_error.ensures,
)
