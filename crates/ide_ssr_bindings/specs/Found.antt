-- Matches that a search finds, kept or not, and what is asked of them.
use Rattle.std.specs.Prelude.{ℕ, ◌≡◌, ◌<◌, ◌≤◌, ◌⊎◌, max, min, List, Option, Some, All, AllPairs, Contains}
use Rattle.std.specs.Option.{IsSomeAnd}
use Rattle.ssr_base_trees.specs.declared.ids.NodeId.{NodeId}
use Rattle.ssr_base_trees.specs.declared.ids.TokenRun.{TokenRun}
use Rattle.ssr_base_trees.specs.declared.semantics.SelfKind.TheVariants as self_kind
use Rattle.ssr_base_trees.specs.Workspace.{PlacedTree, FileSpan, node_id, original_range, run_range}
use Rattle.ssr_base_trees.specs.Built.{IsNodeOf}
use Rattle.ssr_base_trees.specs.Laws.{IsBelow, LiesIn}
use Rattle.ide_ssr_bindings.specs.declared.bindings.Binding.{Binding}
use Rattle.ide_ssr_bindings.specs.declared.bindings.Held.{Held}
use Rattle.ide_ssr_bindings.specs.declared.bindings.Held.TheVariants as held

-- ** What placeholders hold.

-- a placeholder with what it holds; that of a receiver of a method call tells more
abbrev pub plain_binding : ℕ → Held → Binding
plain_binding placeholder held = record { placeholder = placeholder; held = held; deref_count = 0; self_kind = self_kind.Owned }

abbrev pub node_binding : ℕ → ℕ → Binding
node_binding placeholder node = plain_binding placeholder (held.Node (record { 0 = node }))

abbrev pub tokens_binding : ℕ → TokenRun → Binding
tokens_binding placeholder run = plain_binding placeholder (held.Tokens run)

-- where what is held comes from, the tree of the match having this number
abbrev pub range_of_held : List PlacedTree → ℕ → Held → Option FileSpan
range_of_held trees tree (held.Node node) = original_range trees (node_id tree node.0)
range_of_held trees tree (held.Tokens run) = run_range trees tree run

abbrev pub held_range : List PlacedTree → ℕ → Binding → Option FileSpan
held_range trees tree b = range_of_held trees tree b.held

-- ** Matches.

-- a match: the place of its rule in the list of rules, its node, and what the placeholders hold, in the order in which they
-- stand in the pattern
pub record FoundMatch : Type 0 where
  pub rule : ℕ
  pub node : NodeId
  pub bindings : List Binding

-- a node is another one or stands below it
abbrev pub IsAtOrBelow : List PlacedTree → NodeId → NodeId → Type 0
IsAtOrBelow trees x a = (x ≡ a) ⊎ IsBelow trees x a

abbrev pub HasByte : FileSpan → Type 0
HasByte range = range.span.start < range.span.end

-- two ranges of one file have no byte in common
abbrev pub AreDisjoint : FileSpan → FileSpan → Type 0
AreDisjoint r s = min r.span.end s.span.end ≤ max r.span.start s.span.start

-- the original ranges of what two bindings hold in one tree, where they have some, have no byte in common
abbrev pub ShareNoByte : List PlacedTree → ℕ → Binding → Binding → Type 0
ShareNoByte trees tree a b = (r s : FileSpan) → held_range trees tree a ≡ Some r → held_range trees tree b ≡ Some s → AreDisjoint r s

-- what a binding of a match at this node holds has an original range, which lies in that of the node
abbrev pub IsInRange : List PlacedTree → NodeId → Binding → Type 0
IsInRange trees node b = IsSomeAnd (held_range trees node.tree b) (λ inner. IsSomeAnd (original_range trees node) (λ outer. LiesIn inner outer))

-- what is asked of a match
pub record IsMatch (trees : List PlacedTree) (m : FoundMatch) : Type 0 where
  -- the match's node is a node of the workspace, and has an original range with a byte
  pub node : IsNodeOf trees m.node
  pub range : IsSomeAnd (original_range trees m.node) HasByte
  -- what the match's placeholders hold comes from the range of its node, and no two share a byte
  pub held : All (IsInRange trees m.node) m.bindings
  pub apart : AllPairs (ShareNoByte trees m.node.tree) m.bindings

-- what is asked of the matches that are found, in whatever order they come and however often one comes
pub record AreMatches (trees : List PlacedTree) (found : List FoundMatch) : Type 0 where
  pub each : All (IsMatch trees) found
  -- at one node a rule matches in one way
  pub one : (k m : FoundMatch) → Contains found k → Contains found m → k.node ≡ m.node → k.rule ≡ m.rule → k ≡ m
