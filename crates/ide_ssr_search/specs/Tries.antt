-- How often a search tries rules at nodes, at most and at least.
use Rattle.std.specs.Prelude.{ℕ, ◌≡◌, ◌≢◌, ◌↔◌, ◌+◌, ◌≤◌, Bool, true, false, List, [], ◌∷◌, length, AllPairs, Contains}
use Rattle.ssr_base_trees.specs.declared.ids.NodeId.{NodeId}
use Rattle.ssr_base_trees.specs.Workspace.{Workspace}
use Rattle.ide_ssr_resolved_rule.specs.Resolved.{ResolvedRule}
use Rattle.ide_ssr_bindings.specs.Found.{FoundMatch}
use Rattle.ide_ssr_search.specs.Context.{Context}
use Rattle.ide_ssr_search.specs.Permitted.{IsPermitted}

-- exactly the nodes that are permitted for a rule, each once
pub record ArePermitted (w : Workspace) (context : Context) (rule : ResolvedRule) (xs : List NodeId) : Type 0 where
  pub once : AllPairs (λ x y. x ≢ y) xs
  pub are : (x : NodeId) → Contains xs x ↔ IsPermitted w context rule x

module _ (w : Workspace) (context : Context) where
  -- a wanted rule as often as there are nodes that are permitted for it, another one never
  abbrev pub IsMostWanted : ResolvedRule → Bool → ℕ → Type 0
  IsMostWanted rule true most = (xs : List NodeId) × ArePermitted w context rule xs × (most ≡ length xs)
  IsMostWanted rule false most = most ≡ 0

  -- for all rules together, each with its flag; a rule without one is not wanted
  abbrev pub IsMostOf : List ResolvedRule → List Bool → ℕ → Type 0
  IsMostOf [] wanted most = most ≡ 0
  IsMostOf (rule ∷ rules) [] most = most ≡ 0
  IsMostOf (rule ∷ rules) (flag ∷ wanted) most =
      (own : ℕ) × (others : ℕ) × IsMostWanted rule flag own × IsMostOf rules wanted others × (most ≡ own + others)

-- each match that is added was tried: what is counted grows by one at least for each
abbrev pub AreTried : List FoundMatch → List FoundMatch → ℕ → ℕ → Type 0
AreTried found longer old new = old + length longer ≤ new + length found
