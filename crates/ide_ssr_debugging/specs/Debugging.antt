-- The debug list: which nodes a snippet shows, and what is told of the rules that ask for such a node.
use Rattle.std.specs.Prelude.{ℕ, ◌≡◌, ◌<◌, ◌⊎◌, ◌↔◌, IsTrue, Bool, List, Option, Some, length, slice_get, AllPairs, Contains}
use Rattle.std.specs.Option.{IsSomeAnd, option_map_or}
use Rattle.ssr_syntax_tree.specs.Syntax.{Syntax}
use Rattle.ssr_syntax_tree.specs.Places.{node_of}
use Rattle.ssr_base_trees.specs.declared.ids.FileId.{FileId}
use Rattle.ssr_base_trees.specs.declared.ids.FileRange.{FileRange}
use Rattle.ssr_base_trees.specs.declared.ids.NodeId.{NodeId}
use Rattle.ssr_base_trees.specs.Meanings.{Meanings}
use Rattle.ssr_base_trees.specs.Workspace.{Workspace, PlacedTree, trees, tree_of, text_of, original_range, file_span_of}
use Rattle.ssr_base_trees.specs.Built.{IsNodeOf}
use Rattle.ide_ssr_bindings.specs.declared.bindings.Binding.{Binding}
use Rattle.ide_ssr_resolved_rule.specs.Resolved.{ResolvedRule}
use Rattle.ide_ssr_nesting.specs.Order.{Precedes}
use Rattle.ide_ssr_search.specs.WholeMatches.{IsWholeMatch}
use Rattle.ide_ssr_debugging.specs.Expressions.{asks}

-- ** Nodes.

-- A snippet shows the nodes other than roots whose original range lies in the file and has its text. So there is one for each
-- occurrence, whether others overlap it or not. An empty snippet shows none.
pub record IsShown (w : Workspace) (file : FileId) (snippet : List ℕ) (x : NodeId) : Type 0 where
  pub has_byte : 0 < length snippet
  pub node : IsNodeOf (trees w) x
  pub no_root : 0 < x.node.0
  pub range : FileRange
  pub stands : original_range (trees w) x ≡ Some (file_span_of range)
  pub in_file : range.file_id ≡ file
  pub is_text : text_of w range ≡ Some snippet

-- where the original range of a node begins
abbrev pub start : List PlacedTree → NodeId → ℕ
start trees x = option_map_or (λ range. range.span.start) (original_range trees x) 0

-- of two nodes the one comes first that begins first, or, where both begin there, that precedes the other
abbrev pub NodeBefore : List PlacedTree → NodeId → NodeId → Type 0
NodeBefore trees a b = (start trees a < start trees b) ⊎ ((start trees a ≡ start trees b) × Precedes trees a b)

-- ** Entries.

-- a node, the place of a rule among the rules, and whether the rule matches as a whole at the node
pub record Entry : Type 0 where
  pub node : NodeId
  pub rule : ℕ
  pub matched : Bool

-- what is told of a rule at a node of a tree: it asks for nodes of that kind, and matches, or doesn't
pub record Tells (trees : List PlacedTree) (m : Meanings) (rule : ResolvedRule) (tree : Syntax) (e : Entry) : Type 0 where
  pub asked : IsTrue (asks rule.pattern.kind (node_of tree e.node.node.0).kind)
  pub told : IsTrue e.matched ↔ ((bindings : List Binding) × IsWholeMatch trees m rule e.node bindings)

-- an entry tells of one of the rules at a node of the workspace
abbrev pub IsTold : Workspace → Meanings → List ResolvedRule → Entry → Type 0
IsTold w m rules e = IsSomeAnd (slice_get rules e.rule) (λ rule. IsSomeAnd (tree_of w e.node.tree) (λ tree. Tells (trees w) m rule tree e))

-- in the order of nodes, at a node in that of rules
abbrev pub EntryBefore : List PlacedTree → Entry → Entry → Type 0
EntryBefore trees e f = NodeBefore trees e.node f.node ⊎ ((e.node ≡ f.node) × (e.rule < f.rule))

-- what is told of all nodes that the snippet shows, in order
pub record AreEntries (w : Workspace) (m : Meanings) (rules : List ResolvedRule) (file : FileId) (snippet : List ℕ) (entries : List Entry) : Type 0 where
  pub in_order : AllPairs (EntryBefore (trees w)) entries
  pub are : (e : Entry) → Contains entries e ↔ (IsShown w file snippet e.node × IsTold w m rules e)
