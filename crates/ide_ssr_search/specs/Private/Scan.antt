-- Private: what a search has found as it goes over trees and nodes, and how often it has tried rules.
use Rattle.std.specs.Prelude.{ℕ, ◌≡◌, ◌+◌, ◌<◌, ◌≤◌, ◌⊎◌, Bool, List, [], ◌∷◌, ◌++◌, slice_get, Option, Some, None, All, AllPairs, Contains}
use Rattle.ssr_base_trees.specs.declared.ids.NodeId.{NodeId}
use Rattle.ssr_base_trees.specs.Meanings.{Meanings}
use Rattle.ssr_base_trees.specs.Workspace.{Workspace, trees, node_id}
use Rattle.ide_ssr_resolved_rule.specs.Resolved.{ResolvedRule}
use Rattle.ide_ssr_bindings.specs.declared.bindings.Binding.{Binding}
use Rattle.ide_ssr_bindings.specs.Found.{FoundMatch}
use Rattle.ide_ssr_nesting.specs.Kept.{IsShadowed}
use Rattle.ide_ssr_search.specs.declared.scan.TreeScan.{TreeScan}
use Rattle.ide_ssr_search.specs.Context.{Context}
use Rattle.ide_ssr_search.specs.Permitted.{IsPermitted}
use Rattle.ide_ssr_search.specs.WholeMatches.{IsWholeMatch}
use Rattle.ide_ssr_search.specs.Found.{IsWanted, IsFoundOf, Precedes}

-- ** What is found.

-- a match comes before those of the rule r at the node n of the tree t
abbrev pub IsBefore : ℕ → ℕ → ℕ → FoundMatch → Type 0
IsBefore t n r m = Precedes m (record { rule = r; node = node_id t n; bindings = [] })

-- what is found of the wanted rules before the matches of the rule r at the node n of the tree t; some may be left out
pub record AreFoundBut (IsLeftOut : List FoundMatch → FoundMatch → Type 0) (w : Workspace) (m : Meanings) (context : Context) (rules : List ResolvedRule) (wanted : List Bool) (t n r : ℕ) (ms : List FoundMatch) : Type 0 where
  pub in_order : AllPairs Precedes ms
  pub before : All (IsBefore t n r) ms
  pub are : All (IsFoundOf w m context rules wanted) ms
  pub complete : (found : FoundMatch) → IsFoundOf w m context rules wanted found → IsBefore t n r found → Contains ms found ⊎ IsLeftOut ms found

-- what is shadowed is left out
abbrev pub AreFoundBefore : Workspace → Meanings → Context → List ResolvedRule → List Bool → ℕ → ℕ → ℕ → List FoundMatch → Type 0
AreFoundBefore w m context rules wanted t n r ms = AreFoundBut (IsShadowed (trees w)) w m context rules wanted t n r ms

-- what is left out at a node: all matches of rules behind this one
abbrev pub ShadowLater : Workspace → NodeId → ℕ → List FoundMatch → Type 0
ShadowLater w x place ms = (m : FoundMatch) → x ≡ m.node → place < m.rule → IsShadowed (trees w) ms m

-- what the placeholders of a rule hold, where it is permitted at a node and matches there as a whole
abbrev pub TellsMatch : Workspace → Meanings → Context → ResolvedRule → NodeId → Option (List Binding) → Type 0
TellsMatch w m context rule x None = (bindings : List Binding) → IsPermitted w context rule x → ¬ IsWholeMatch (trees w) m rule x bindings
TellsMatch w m context rule x (Some bindings) = IsPermitted w context rule x × IsWholeMatch (trees w) m rule x bindings

abbrev pub found_of : ℕ → NodeId → Option (List Binding) → List FoundMatch
found_of place x None = []
found_of place x (Some bindings) = record { rule = place; node = x; bindings = bindings } ∷ []

-- the match of a rule at a node is added, if the rule is permitted there and matches as a whole
pub record Adds (w : Workspace) (m : Meanings) (context : Context) (rule : ResolvedRule) (place : ℕ) (x : NodeId) (old new : List FoundMatch) : Type 0 where
  pub bindings : Option (List Binding)
  pub tells : TellsMatch w m context rule x bindings
  pub added : new ≡ old ++ found_of place x bindings

-- ** How often rules are tried.

-- a try of a rule at a node is counted, if there is one, and then the rule is permitted there
abbrev pub CountsTry : Workspace → Context → ResolvedRule → NodeId → ℕ → ℕ → Type 0
CountsTry w context rule x old new = (new ≡ old) ⊎ (IsPermitted w context rule x × (new ≡ old + 1))

-- Limits of what is counted in front of the rule r at the node n of the tree t: they grow by one where a wanted rule is permitted,
-- and never fall.
pub record AreLimits (w : Workspace) (context : Context) (rules : List ResolvedRule) (wanted : List Bool) (limit : ℕ → ℕ → ℕ → ℕ) : Type 0 where
  pub tried : (t n r : ℕ) (rule : ResolvedRule) → slice_get rules r ≡ Some rule → IsWanted wanted r → IsPermitted w context rule (node_id t n)
      → limit t n r + 1 ≤ limit t n (r + 1)
  pub next_rule : (t n r : ℕ) → limit t n r ≤ limit t n (r + 1)
  pub next_node : (t n r : ℕ) → limit t n r ≤ limit t (n + 1) 0
  pub next_tree : (t n : ℕ) → limit t n 0 ≤ limit (t + 1) 0 0

-- from the node n of the tree t to the rule r at the node m of the tree u, what is counted keeps to each limit
abbrev pub KeepsLimits : Workspace → Context → List ResolvedRule → List Bool → ℕ → ℕ → ℕ → ℕ → ℕ → ℕ → ℕ → Type 0
KeepsLimits w context rules wanted t n u m r old new =
    (limit : ℕ → ℕ → ℕ → ℕ) → AreLimits w context rules wanted limit → new + limit t n 0 ≤ old + limit u m r

-- ** What a scan goes over, and for what.

pub record Scanned : Type 0 where
  pub workspace : Workspace
  pub meanings : Meanings
  pub context : Context
  pub rules : List ResolvedRule
  pub wanted : List Bool

abbrev pub scanned : {S : Type 0} → (S → Meanings) → TreeScan S → Scanned
scanned meanings scan = record {
  workspace = scan.known.workspace.now;
  meanings = meanings scan.semantics.now;
  context = scan.known.context.now;
  rules = scan.rules.now.rules.now;
  wanted = scan.rules.now.wanted.now;
}

abbrev pub AreScanned : Scanned → ℕ → ℕ → ℕ → List FoundMatch → Type 0
AreScanned s t n r ms = AreFoundBefore s.workspace s.meanings s.context s.rules s.wanted t n r ms

abbrev pub KeepsTo : Scanned → ℕ → ℕ → ℕ → ℕ → ℕ → ℕ → ℕ → Type 0
KeepsTo s t n u m r old new = KeepsLimits s.workspace s.context s.rules s.wanted t n u m r old new
