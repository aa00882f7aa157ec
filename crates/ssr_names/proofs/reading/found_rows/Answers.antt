use Rattle.std.proofs.Common.{subst}
use Rattle.ssr_base_trees.specs.Workspace.{trees}
use Rattle.ssr_names.specs.Private.Locals.{BindAll}
use Rattle.ssr_names.proofs.reading.found_rows.Goals as goal

pub rows-requires-clause-bound : goal.rows-requires-clause-bound
rows-requires-clause-bound c =
    subst (λ binders. BindAll (trees c.args.resolver.source.now.trees.now) c.in_ok-bound.bound binders) c.as_slice.ensures.value c.in_ok-bound.ensures
