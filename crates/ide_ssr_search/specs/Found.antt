-- What a search finds.
use Rattle.std.specs.Prelude.{ℕ, ◌≡◌, ◌<◌, ◌⊎◌, ◌↔◌, Bool, true, List, Some, slice_get, AllPairs, Contains}
use Rattle.ssr_base_trees.specs.Meanings.{Meanings}
use Rattle.ssr_base_trees.specs.Workspace.{Workspace, trees}
use Rattle.ide_ssr_resolved_rule.specs.Resolved.{ResolvedRule}
use Rattle.ide_ssr_bindings.specs.Found.{FoundMatch}
use Rattle.ide_ssr_search.specs.Context.{Context}
use Rattle.ide_ssr_search.specs.Permitted.{IsPermitted}
use Rattle.ide_ssr_search.specs.WholeMatches.{IsWholeMatch}

-- one of the rules matches as a whole at a node that is permitted for it
pub record IsFound (w : Workspace) (m : Meanings) (context : Context) (rules : List ResolvedRule) (found : FoundMatch) : Type 0 where
  pub rule : ResolvedRule
  pub is_rule : slice_get rules found.rule ≡ Some rule
  pub permitted : IsPermitted w context rule found.node
  pub whole : IsWholeMatch (trees w) m rule found.node found.bindings

-- one match comes before another one: trees by their numbers, in a tree nodes by theirs, at a node rules in order
abbrev pub Precedes : FoundMatch → FoundMatch → Type 0
Precedes k m =
    (k.node.tree < m.node.tree)
    ⊎ ((k.node.tree ≡ m.node.tree)
    × ((k.node.node.0 < m.node.node.0) ⊎ ((k.node.node.0 ≡ m.node.node.0) × (k.rule < m.rule))))

-- exactly what is found, in the order of trees, nodes and rules, and so each once
pub record AreFound (w : Workspace) (m : Meanings) (context : Context) (rules : List ResolvedRule) (ms : List FoundMatch) : Type 0 where
  pub in_order : AllPairs Precedes ms
  pub are : (found : FoundMatch) → Contains ms found ↔ IsFound w m context rules found

-- ** What is found of some of the rules.

-- the flag of a rule, which has this place among the rules, is set
abbrev pub IsWanted : List Bool → ℕ → Type 0
IsWanted wanted place = slice_get wanted place ≡ Some true

-- one of the wanted rules matches as a whole at a node that is permitted for it
abbrev pub IsFoundOf : Workspace → Meanings → Context → List ResolvedRule → List Bool → FoundMatch → Type 0
IsFoundOf w m context rules wanted found = IsFound w m context rules found × IsWanted wanted found.rule
