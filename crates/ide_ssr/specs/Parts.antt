-- What a nested match shows of itself, and its placeholders of themselves.
use Rattle.std.specs.Prelude.{ℕ, ◌≡◌, List, [], Option, Some, map, slice_index_or, All}
use Rattle.std.specs.Option.{IsSomeAnd, option_map_or}
use Rattle.ssr_syntax_tree.specs.Places.{node_of as code_node, text_of as node_text}
use Rattle.ssr_base_trees.specs.Laws.{LiesInFile}
use Rattle.ssr_base_trees.specs.Workspace.{Workspace, FileSpan, trees, tree_of, file_span_of, original_range}
use Rattle.ide_ssr_resolved_rule.specs.Resolved.{ResolvedRule}
use Rattle.ide_ssr_bindings.specs.declared.bindings.Binding.{Binding}
use Rattle.ide_ssr_bindings.specs.Found.{FoundMatch, held_range}
use Rattle.ide_ssr.specs.declared.matches.Match.{Match}
use Rattle.ide_ssr.specs.declared.matches.PlaceholderMatch.{PlaceholderMatch}
use Rattle.ide_ssr.specs.Comments.{comment_spans}
use Rattle.ide_ssr.specs.Matches.{text_of, range_of, node_of, rule_of, name_of, span_of, deref_count_of, self_kind_of, comments_of}

-- bytes of a file, which begin and end between characters, are those of an original range
pub record ComesFrom (w : Workspace) (original : Option FileSpan) (range : FileSpan) : Type 0 where
  pub is : original ≡ Some range
  pub in_file : LiesInFile w range

-- a match has the rule, the node, where it comes from, its text in its own tree, and the comments that it keeps
pub record HasParts (w : Workspace) (m : FoundMatch) (v : Match) : Type 0 where
  pub rule : rule_of v ≡ m.rule
  pub node : node_of v ≡ m.node
  pub range : ComesFrom w (original_range (trees w) m.node) (file_span_of (range_of v))
  pub text : IsSomeAnd (tree_of w m.node.tree) (λ syntax. text_of v ≡ node_text (code_node syntax m.node.node.0))
  pub comments : map file_span_of (comments_of v) ≡ comment_spans w m
  pub comments_in_file : All (λ range. LiesInFile w (file_span_of range)) (comments_of v)

-- the name of a placeholder of a rule; the rule of a match is one of the finder's, and its placeholders have names
abbrev pub placeholder_name : Option ResolvedRule → ℕ → List ℕ
placeholder_name rule i = option_map_or (λ rule. slice_index_or rule.names i []) rule []

-- a placeholder has the name, comes from where what it holds does, and tells how a receiver is taken
pub record HasBinding (w : Workspace) (rule : Option ResolvedRule) (tree : ℕ) (binding : Binding) (p : PlaceholderMatch) : Type 0 where
  pub name : name_of p ≡ placeholder_name rule binding.placeholder
  pub range : ComesFrom w (held_range (trees w) tree binding) (span_of p)
  pub deref_count : deref_count_of p ≡ binding.deref_count
  pub self_kind : self_kind_of p ≡ binding.self_kind
