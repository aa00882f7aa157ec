-- Where nodes of a workspace come from, and what stands above them: the words of its laws.
use Rattle.std.specs.Prelude.{ℕ, zero, suc, ◌≡◌, ◌+◌, ◌<◌, ◌≤◌, ◌⊎◌, IsTrue, List, length, slice_get, Option, Some, None}
use Rattle.std.specs.Option.{IsSomeAnd, option_and_then}
use Rattle.ssr_syntax_tree.specs.Places.{node_of}
use Rattle.ssr_syntax_tree.specs.Syntax.{source_of}
use Rattle.ssr_base_trees.specs.declared.ids.NodeId.{NodeId}
use Rattle.ssr_base_trees.specs.declared.ids.TokenRun.{TokenRun}
use Rattle.ssr_base_trees.specs.Origins.{Span}
use Rattle.ssr_base_trees.specs.Texts.{is_boundary}
use Rattle.ssr_base_trees.specs.Workspace.{Workspace, PlacedTree, FileSpan, trees, with_number, file_of, node_id, above, original_range, run_of, run_range}

-- ** What stands above.

-- what stands so many steps above a node
abbrev pub climbed : List PlacedTree → ℕ → NodeId → Option NodeId
climbed trees zero x = Some x
climbed trees (suc n) x = option_and_then (climbed trees n) (above trees x)

-- a node stands below another one, directly or not
abbrev pub IsBelow : List PlacedTree → NodeId → NodeId → Type 0
IsBelow trees b a = (n : ℕ) × (climbed trees (suc n) b ≡ Some a)

-- a node is one of an earlier tree, or comes before another one in its tree
abbrev pub IsEarlier : NodeId → NodeId → Type 0
IsEarlier a b = (a.tree < b.tree) ⊎ ((a.tree ≡ b.tree) × (a.node.0 < b.node.0))

-- the root of the file at the top of a node's tree
abbrev pub file_root : List PlacedTree → NodeId → NodeId
file_root trees x = node_id (file_of trees x.tree) 0

-- the way up from a node ends at the root of the file at the top
pub record ReachesItsFile (w : Workspace) (x : NodeId) : Type 0 where
  pub steps : ℕ
  pub reached : climbed (trees w) steps x ≡ Some (file_root (trees w) x)
  pub is_file : file_of (trees w) x.tree < length w.files
  pub top : above (trees w) (file_root (trees w) x) ≡ None

-- ** Original ranges.

pub record LiesIn (inner outer : FileSpan) : Type 0 where
  pub file : inner.file ≡ outer.file
  pub begins : outer.span.start ≤ inner.span.start
  pub ends : inner.span.end ≤ outer.span.end

-- of two nodes of one tree, one below the other, the lower one's original range lies in the upper one's
abbrev pub RangesNest : List PlacedTree → Type 0
RangesNest trees =
    (a b : NodeId) (outer inner : FileSpan)
    → IsBelow trees b a → a.tree ≡ b.tree
    → original_range trees a ≡ Some outer → original_range trees b ≡ Some inner
    → LiesIn inner outer

-- tokens are among others
abbrev pub IsAmong : TokenRun → TokenRun → Type 0
IsAmong inner outer = (outer.first ≤ inner.first) × (inner.first + inner.count ≤ outer.first + outer.count)

-- tokens of a tree are among those of a node
abbrev pub AreOfNode : List PlacedTree → TokenRun → NodeId → Type 0
AreOfNode trees run x = IsSomeAnd (with_number trees x.tree) (λ p. IsAmong run (run_of (node_of p.syntax x.node.0)))

-- where tokens of a node come from lies where the node does
abbrev pub RunsNest : List PlacedTree → Type 0
RunsNest trees =
    (x : NodeId) (run : TokenRun) (outer inner : FileSpan) → AreOfNode trees run x
    → original_range trees x ≡ Some outer → run_range trees x.tree run ≡ Some inner → LiesIn inner outer

-- a span of a text, between characters
pub record IsSpanOf (text : List ℕ) (span : Span) : Type 0 where
  pub ordered : span.start ≤ span.end
  pub within : span.end ≤ length text
  pub begins : IsTrue (is_boundary text span.start)
  pub ends : IsTrue (is_boundary text span.end)

-- a span of a file is one of the file's text, between characters
abbrev pub LiesInFile : Workspace → FileSpan → Type 0
LiesInFile w range = IsSomeAnd (slice_get w.files range.file) (λ tree. IsSpanOf (source_of tree) range.span)
