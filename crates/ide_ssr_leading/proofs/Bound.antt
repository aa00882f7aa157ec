-- A led search has a bound on how often it tries rules at nodes.
use Rattle.std.proofs.Common.{ℕ, ◌+◌, List, [], ◌∷◌, length, Option, Some, None, refl}
use Rattle.ssr_base_trees.specs.Built.{IsBuilt}
use Rattle.ssr_base_trees.specs.Meanings.{Meanings}
use Rattle.ssr_base_trees.specs.Workspace.{Workspace}
use Rattle.ide_ssr_resolved_rule.specs.Resolved.{ResolvedRule}
use Rattle.ide_ssr_resolved_rule.specs.declared.used_paths.UsedPath.{UsedPath}
use Rattle.ide_ssr_search.specs.Context.{Context}
use Rattle.ide_ssr_search.proofs.Shared.{some_permitted}
use Rattle.ide_ssr_leading.specs.Leading.{picked_path}
use Rattle.ide_ssr_leading.specs.Tries.{IsMostFor, IsMost}

module _ (w : Workspace) (built : IsBuilt w) (m : Meanings) (context : Context) where
  most_for : (rule : ResolvedRule) (o : Option UsedPath) → (most : ℕ) × IsMostFor w m context rule o most
  most_for rule (Some path) = (length (m.usages path.res), refl)
  most_for rule None = let xs = some_permitted w built context rule in (length xs.0, (xs.0, xs.1, refl))

  pub some_most : (rules : List ResolvedRule) → (most : ℕ) × IsMost w m context rules most
  some_most [] = (0, refl)
  some_most (rule ∷ rules) =
      let own = most_for rule (picked_path rule) in
      let others = some_most rules in
      (own.0 + others.0, (own.0, others.0, own.1, others.1, refl))
