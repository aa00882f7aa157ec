-- What of a path in a pattern is told by the rule, as far as a search by its usages rests on it.
use Rattle.std.proofs.Common.{◌≡◌, ℕ, zero, suc, List, [], ◌∷◌, ◌⊎◌, Some, true}
use Rattle.std.specs.Prelude.{Contains}
use Rattle.ssr_syntax_kinds.specs.declared.kinds.SyntaxKind.TheVariants as k
use Rattle.ssr_syntax_tree.specs.Syntax.{Syntax}
use Rattle.ssr_syntax_tree.specs.Places.{Node, HasNode, node_of}
use Rattle.ssr_base_trees.specs.declared.semantics.Res.{Res}
use Rattle.ssr_base_trees.specs.Meanings.{Meanings, IsNoBuiltin}
use Rattle.ide_ssr_resolved_rule.specs.declared.qualified_calls.QualifiedCall.{QualifiedCall}
use Rattle.ide_ssr_resolved_rule.specs.declared.used_paths.UsedPath.{UsedPath}
use Rattle.ide_ssr_resolved_rule.specs.Placeholders.{placeholder_at}
use Rattle.ide_ssr_resolved_rule.specs.Resolved.{ResolvedRule}
use Rattle.ide_ssr_resolving.specs.Resolved.{IsResolvedBy}
use Rattle.ide_ssr_matching.specs.Calls.{child_nodes, call_of}
use Rattle.ide_ssr_matching.specs.TokenTrees.{is_token_tree}
use Rattle.ide_ssr_matching.specs.UsedPaths.{pattern_res}

-- a node is one of these
abbrev pub IsAmong : List Node → Node → Type 0
IsAmong [] node = ⊥
IsAmong (first ∷ rest) node = (node ≡ first) ⊎ IsAmong rest node

-- the node q stands so many steps below p
abbrev pub Below : Node → Node → ℕ → Type 0
Below q p zero = q ≡ p
Below q p (suc d) = (child : Node) × IsAmong (child_nodes p) child × Below q child d

-- a node is the one of its number in a tree
pub record IsNodeIn (s : Syntax) (p : Node) : Type 0 where
  pub has : HasNode s p.number
  pub is : node_of s p.number ≡ p

-- Of the path q, which stands for r: no node at or above it is a placeholder or a token tree, none above it is a used path, and
-- it stands in no first argument of a qualified call. A qualified call is a call.
pub record IsLeading (rule : ResolvedRule) (q : Node) (r : Res) : Type 0 where
  pub path : q.kind ≡ k.PATH
  pub used : pattern_res rule q ≡ Some r
  pub stand_in : (p : Node) (d i : ℕ) → IsNodeIn rule.pattern p → Below q p d → placeholder_at rule.names p ≡ Some i → ⊥
  pub token_tree : (p : Node) (d : ℕ) → IsNodeIn rule.pattern p → Below q p d → is_token_tree p ≡ true → ⊥
  pub outermost : (p : Node) (d : ℕ) (u : Res) → IsNodeIn rule.pattern p → Below q p (suc d) → pattern_res rule p ≡ Some u → ⊥
  pub call : (p : Node) (call : QualifiedCall) → IsNodeIn rule.pattern p → call_of rule p ≡ Some call → p.kind ≡ k.CALL_EXPR
  pub argument :
      (p list first : Node) (rest : List Node) (d : ℕ) (call : QualifiedCall)
      → IsNodeIn rule.pattern p → call_of rule p ≡ Some call → IsAmong (child_nodes p) list → list.kind ≡ k.ARG_LIST
      → child_nodes list ≡ first ∷ rest → Below q first d → ⊥

-- All this is so of each eligible path of a rule that resolves, and what the path stands for is no builtin type.
abbrev pub IsSound : Type 0
IsSound =
    (m : Meanings) (rule : ResolvedRule) (path : UsedPath) → IsResolvedBy m rule → Contains rule.eligible_paths path
    → IsLeading rule (node_of rule.pattern path.node.0) path.res × IsNoBuiltin m path.res × HasNode rule.pattern path.node.0
