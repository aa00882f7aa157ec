use Rattle.std.proofs.Common.{None, List, inl, subst}
use Rattle.ssr_names_items.specs.declared.table.Name.{Name}
use Rattle.ssr_names.specs.Lookup.{Place}
use Rattle.ssr_names.specs.WholePaths.{WholeStandsFor}
use Rattle.ssr_names.proofs.resolving.Resolver.macro_told.Goals as goal

pub returns : goal.returns
returns c =
    let spelled = c.args.spelled in
    let place : Place = record { start = spelled.path.now.start; within = spelled.«module»; import = None } in
    λ d is.
    inl (subst (λ (names : List Name). WholeStandsFor c.args.self.now.space.now place spelled.namespace names d) c.deref.ensures.value
    (c.in_ok-answer.ensures d (c.macro_at.ensures d is)))
