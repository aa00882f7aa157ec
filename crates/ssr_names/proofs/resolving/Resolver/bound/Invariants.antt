use Rattle.std.proofs.Common.{take}
use Rattle.ssr_base_trees.specs.Workspace.{trees}
use Rattle.ssr_names.specs.Private.Locals.{BindAll}
use Rattle.ssr_names.proofs.resolving.Resolver.bound.Given as goal

abbrev pub invariant-loop-binder : goal.invariant-loop-binder
invariant-loop-binder l = BindAll (trees l.self.source.now.trees.now) l.bound (take l.binder-index l.binders)
