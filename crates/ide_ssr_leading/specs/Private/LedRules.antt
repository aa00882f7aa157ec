-- Private: what the search for one rule finds that a path leads.
use Rattle.std.specs.Prelude.{ℕ, ◌≡◌, ◌⊎◌, ◌↔◌, List, Option, Some, None, Contains}
use Rattle.ssr_base_trees.specs.declared.ids.NodeId.{NodeId}
use Rattle.ssr_base_trees.specs.Meanings.{Meanings}
use Rattle.ssr_base_trees.specs.Workspace.{Workspace, PlacedTree, trees}
use Rattle.ide_ssr_resolved_rule.specs.Resolved.{ResolvedRule}
use Rattle.ide_ssr_bindings.specs.declared.bindings.Binding.{Binding}
use Rattle.ide_ssr_bindings.specs.Found.{FoundMatch}
use Rattle.ide_ssr_search.specs.Context.{Context}
use Rattle.ide_ssr_search.specs.Permitted.{IsPermitted}
use Rattle.ide_ssr_search.specs.WholeMatches.{IsWholeMatch}
use Rattle.ide_ssr_leading.specs.Leading.{led_to}

-- one of these usages leads to a node, of a path that is so deep in the pattern
abbrev pub IsLedBy : List PlacedTree → ℕ → List NodeId → NodeId → Type 0
IsLedBy trees depth usages x = (usage : NodeId) × Contains usages usage × (led_to trees depth usage ≡ Some x)

-- exactly the nodes that these usages lead to
abbrev pub AreLedTo : List PlacedTree → ℕ → List NodeId → List NodeId → Type 0
AreLedTo trees depth usages nodes = (x : NodeId) → Contains nodes x ↔ IsLedBy trees depth usages x

-- a match of a rule, which has this place among the rules
pub record IsMatchOf (w : Workspace) (m : Meanings) (context : Context) (rule : ResolvedRule) (place : ℕ) (found : FoundMatch) : Type 0 where
  pub of_rule : found.rule ≡ place
  pub permitted : IsPermitted w context rule found.node
  pub whole : IsWholeMatch (trees w) m rule found.node found.bindings

-- what the placeholders of a rule hold, where it is permitted at a node and matches there as a whole
abbrev pub TellsMatch : Workspace → Meanings → Context → ResolvedRule → NodeId → Option (List Binding) → Type 0
TellsMatch w m context rule x None = (bindings : List Binding) → IsPermitted w context rule x → ¬ IsWholeMatch (trees w) m rule x bindings
TellsMatch w m context rule x (Some bindings) = IsPermitted w context rule x × IsWholeMatch (trees w) m rule x bindings

-- exactly the matches that are so are added to others
abbrev pub AreAdded : (FoundMatch → Type 0) → List FoundMatch → List FoundMatch → Type 0
AreAdded IsSo old new = (found : FoundMatch) → Contains new found ↔ (Contains old found ⊎ IsSo found)

module _ (w : Workspace) (m : Meanings) (context : Context) (rule : ResolvedRule) (place : ℕ) where
  -- the matches of a rule at some nodes are added
  abbrev pub AreFoundAt : List NodeId → List FoundMatch → List FoundMatch → Type 0
  AreFoundAt nodes old new = AreAdded (λ found. Contains nodes found.node × IsMatchOf w m context rule place found) old new

  -- its matches at the nodes that usages lead to are added
  abbrev pub AreFoundBy : ℕ → List NodeId → List FoundMatch → List FoundMatch → Type 0
  AreFoundBy depth usages old new =
      AreAdded (λ found. IsLedBy (trees w) depth usages found.node × IsMatchOf w m context rule place found) old new
