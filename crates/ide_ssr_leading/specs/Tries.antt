-- How often a led search tries a rule at a node, at most.
use Rattle.std.specs.Prelude.{ℕ, ◌≡◌, ◌+◌, List, [], ◌∷◌, length, Option, Some, None}
use Rattle.ssr_base_trees.specs.declared.ids.NodeId.{NodeId}
use Rattle.ssr_base_trees.specs.Meanings.{Meanings}
use Rattle.ssr_base_trees.specs.Workspace.{Workspace}
use Rattle.ide_ssr_resolved_rule.specs.declared.used_paths.UsedPath.{UsedPath}
use Rattle.ide_ssr_resolved_rule.specs.Resolved.{ResolvedRule}
use Rattle.ide_ssr_search.specs.Context.{Context}
use Rattle.ide_ssr_search.specs.Tries.{ArePermitted}
use Rattle.ide_ssr_leading.specs.Leading.{picked_path}

module _ (w : Workspace) (m : Meanings) (context : Context) where
  -- as often as the picked path has usages; without one, as often as there are permitted nodes
  abbrev pub IsMostFor : ResolvedRule → Option UsedPath → ℕ → Type 0
  IsMostFor rule (Some path) most = most ≡ length (m.usages path.res)
  IsMostFor rule None most = (xs : List NodeId) × ArePermitted w context rule xs × (most ≡ length xs)

  -- for all rules together
  abbrev pub IsMost : List ResolvedRule → ℕ → Type 0
  IsMost [] most = most ≡ 0
  IsMost (rule ∷ rules) most =
      (own : ℕ) × (others : ℕ) × IsMostFor rule (picked_path rule) own × IsMost rules others × (most ≡ own + others)
