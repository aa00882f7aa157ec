-- A workspace: the trees of its files, and those of what macro calls in them stand for. Nodes and tokens of these have a
-- place in a file at the top.
use Rattle.std.specs.Prelude.{ℕ, ◌+◌, ◌==◌, ◌&&◌, nat_le, nat_lt, Bool, if◌then◌else◌, List, [], ◌∷◌, ◌++◌, length, map, reverse, take, drop, slice_get, Option, Some, None}
use Rattle.std.specs.List.{position_from}
use Rattle.std.specs.Option.{option_map, option_and_then, option_map_or}
use Rattle.ssr_syntax_kinds.specs.declared.reach.Reach.{Reach}
use Rattle.ssr_syntax_tree.specs.Syntax.{Syntax, node_count, token_count, source_of}
use Rattle.ssr_syntax_tree.specs.Places.{Node, node_of, offset_of, start_of, end_of}
use Rattle.ssr_base_trees.specs.declared.ids.FileRange.{FileRange}
use Rattle.ssr_base_trees.specs.declared.ids.NodeId.{NodeId}
use Rattle.ssr_base_trees.specs.declared.ids.TokenRun.{TokenRun}
use Rattle.ssr_base_trees.specs.Origins.{Span, Cover, span_of, cover_of, covered}
use Rattle.ssr_base_trees.specs.Texts.{text_between}

-- what a macro call stands for: its tree, and where each of the tree's tokens comes from
pub record Expanded : Type 0 where
  pub call : NodeId
  pub syntax : Syntax
  pub origins : List (Option Span)

-- all of its texts are read in one reach
pub record Workspace : Type 0 where
  pub reach : Reach
  pub files : List Syntax
  pub expansions : List Expanded

-- a tree of a workspace; a file's has no call
pub record PlacedTree : Type 0 where
  pub syntax : Syntax
  pub call : Option NodeId
  pub origins : List (Option Span)

abbrev pub of_file : Syntax → PlacedTree
of_file syntax = record { syntax = syntax; call = None; origins = [] }

abbrev pub of_expansion : Expanded → PlacedTree
of_expansion e = record { syntax = e.syntax; call = Some e.call; origins = e.origins }

-- all trees, the latest first: the number of a tree is the count of those behind it. Files come before expansions
unfoldable pub trees : Workspace → List PlacedTree
trees w = reverse (map of_file w.files ++ map of_expansion w.expansions)

-- the tree of a number
abbrev pub with_number : List PlacedTree → ℕ → Option PlacedTree
with_number [] t = None
with_number (p ∷ earlier) t = if t == length earlier then Some p else with_number earlier t

abbrev pub tree_of : Workspace → ℕ → Option Syntax
tree_of w t = option_map (λ p. p.syntax) (with_number (trees w) t)

-- the file at the top of a tree: of a file itself, and of an expansion the one at the top of its call
abbrev pub file_of : List PlacedTree → ℕ → ℕ
file_of [] t = t
file_of (p ∷ earlier) t =
    if t == length earlier then option_map_or (λ call. file_of earlier call.tree) p.call t else file_of earlier t

-- how many calls there are from a tree up to its file
abbrev pub nesting : List PlacedTree → ℕ → ℕ
nesting [] t = 0
nesting (p ∷ earlier) t =
    if t == length earlier then option_map_or (λ call. 1 + nesting earlier call.tree) p.call 0 else nesting earlier t

-- the text of the file at the top of a tree
abbrev pub text_at_top : List PlacedTree → ℕ → List ℕ
text_at_top trees t = option_map_or (λ p. source_of p.syntax) (with_number trees (file_of trees t)) []

-- the text of a range of a file
abbrev pub text_of : Workspace → FileRange → Option (List ℕ)
text_of w range =
    option_and_then (λ tree. text_between range.range.start range.range.end (source_of tree)) (slice_get w.files range.file_id.0)

-- ** Nodes.

abbrev pub node_id : ℕ → ℕ → NodeId
node_id tree node = record { tree = tree; node = record { 0 = node } }

abbrev pub same_id : NodeId → NodeId → Bool
same_id a b = (a.tree == b.tree) && (a.node.0 == b.node.0)

-- whether a tree has a node of this number
abbrev pub has_node : Syntax → ℕ → Bool
has_node syntax n = nat_lt n (1 + node_count syntax.children)

-- what a node's tree tells, if there is such a node
abbrev pub told_of : {A : Type 0} → (PlacedTree → Option A) → List PlacedTree → NodeId → Option A
told_of tell trees x = option_and_then (λ p. if has_node p.syntax x.node.0 then tell p else None) (with_number trees x.tree)

-- above a node is its parent; above the root of an expansion is its call
abbrev pub above_in : NodeId → PlacedTree → Option NodeId
above_in x p = if x.node.0 == 0 then p.call else Some (node_id x.tree (node_of p.syntax x.node.0).parent)

abbrev pub above : List PlacedTree → NodeId → Option NodeId
above trees x = told_of (above_in x) trees x

-- the root of what a call stands for
abbrev pub expansion_of : Workspace → NodeId → Option NodeId
expansion_of w call = option_map (λ n. node_id (length w.files + n) 0) (position_from (λ e. same_id call e.call) 0 w.expansions)

-- ** Original ranges.

abbrev pub own_span : Syntax → Node → Span
own_span syntax node = record { start = start_of syntax node; end = end_of syntax node }

-- what covers the origins of the tokens below a node
abbrev pub cover_below : List (Option Span) → Node → Cover
cover_below origins node = cover_of (take (token_count node.children) (drop node.first origins))

-- the original span of a file's node is its own one, that of another node covers the origins of its tokens
abbrev pub original_in : PlacedTree → Node → Option Span
original_in p node = option_map_or (λ call. covered (cover_below p.origins node)) p.call (Some (own_span p.syntax node))

abbrev pub original : List PlacedTree → NodeId → Option Span
original trees x = told_of (λ p. original_in p (node_of p.syntax x.node.0)) trees x

-- bytes of a file
pub record FileSpan : Type 0 where
  pub file : ℕ
  pub span : Span

abbrev pub file_span_of : FileRange → FileSpan
file_span_of range = record { file = range.file_id.0; span = span_of range.range }

-- the original span of a node, which lies in the file at the top of its tree
abbrev pub original_range : List PlacedTree → NodeId → Option FileSpan
original_range trees x = option_map (λ span. record { file = file_of trees x.tree; span = span }) (original trees x)

-- ** Tokens that follow each other.

abbrev pub run_of : Node → TokenRun
run_of node = record { first = node.first; count = token_count node.children }

-- whether a tree has these tokens, and they are some
abbrev pub has_run : Syntax → TokenRun → Bool
has_run syntax run = nat_lt 0 run.count && nat_le (run.first + run.count) (token_count syntax.children)

abbrev pub own_run_span : Syntax → TokenRun → Span
own_run_span syntax run = record { start = offset_of syntax run.first; end = offset_of syntax (run.first + run.count) }

-- the original span of tokens of a file is their own one, that of other tokens covers their origins
abbrev pub original_run_in : PlacedTree → TokenRun → Option Span
original_run_in p run =
    option_map_or (λ call. covered (cover_of (take run.count (drop run.first p.origins)))) p.call (Some (own_run_span p.syntax run))

abbrev pub original_run : List PlacedTree → ℕ → TokenRun → Option Span
original_run trees t run = option_and_then (λ p. if has_run p.syntax run then original_run_in p run else None) (with_number trees t)

abbrev pub run_range : List PlacedTree → ℕ → TokenRun → Option FileSpan
run_range trees t run = option_map (λ span. record { file = file_of trees t; span = span }) (original_run trees t run)
