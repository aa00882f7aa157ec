-- Nodes of the trees of a workspace.
use Rattle.std.proofs.Common.{◌≡◌, ℕ, Bool, true, false, ◌+◌, List, Option, Some, None, refl, sym, ap, ◌∙◌, subst, ltb-true}
use Rattle.std.proofs.lemmas.Bool.{false≢true}
use Rattle.std.proofs.lemmas.Option.{option_and_then_some, same_Some}
use Rattle.std.specs.Prelude.{IsSome, if◌then◌else◌}
use Rattle.std.specs.Option.{IsSomeAnd, option_map}
use Rattle.ssr_syntax_tree.specs.Syntax.{Syntax, node_count}
use Rattle.ssr_syntax_tree.specs.Places.{HasNode, node_of}
use Rattle.ssr_base_trees.specs.declared.ids.NodeId.{NodeId}
use Rattle.ssr_base_trees.specs.Origins.{Span}
use Rattle.ssr_base_trees.specs.Workspace.{Workspace, PlacedTree, FileSpan, trees, with_number, tree_of, file_of, has_node as is_node, told_of, original_in, original, original_range}
use Rattle.ssr_base_trees.specs.Built.{IsNodeOf}
use Rattle.ssr_base_trees.proofs.Shared.{some_and, and_some, mapped}

-- ** Trees by their numbers.

-- a tree of the number t
pub record IsTree (ts : List PlacedTree) (t : ℕ) (s : Syntax) : Type 0 where
  pub tree : PlacedTree
  pub is : with_number ts t ≡ Some tree
  pub same : tree.syntax ≡ s

pub is_tree : (w : Workspace) (t : ℕ) (s : Syntax) → tree_of w t ≡ Some s → IsTree (trees w) t s
is_tree w t s is =
    let had = mapped (λ (p : PlacedTree). p.syntax) (with_number (trees w) t) s is in
    record { tree = had.0; is = had.1; same = had.2 }

-- what is said of a tree that is there
pub of_tree : (ts : List PlacedTree) (t : ℕ) (s : Syntax) (P : Syntax → Type 0) → IsTree ts t s → P s → IsSomeAnd (with_number ts t) (λ p. P p.syntax)
of_tree ts t s P at known = and_some (with_number ts t) (λ p. P p.syntax) at.tree at.is (subst P (sym at.same) known)

pub in_tree : (ts : List PlacedTree) (t : ℕ) (s : Syntax) (P : Syntax → Type 0) → IsTree ts t s → IsSomeAnd (with_number ts t) (λ p. P p.syntax) → P s
in_tree ts t s P at known =
    let had = some_and (with_number ts t) (λ p. P p.syntax) known in
    subst P (ap (λ (p : PlacedTree). p.syntax) (same_Some had.0 at.tree (sym had.1 ∙ at.is)) ∙ at.same) had.2

-- ** Nodes.

-- what is told is told of a node
pub told_node : {A : Type 0} (tell : PlacedTree → Option A) (ts : List PlacedTree) (x : NodeId) (value : A) → told_of tell ts x ≡ Some value → IsNodeOf ts x
told_node {A} tell ts x value told =
    option_and_then_some {P = IsNodeOf ts x} (λ p. if is_node p.syntax x.node.0 then tell p else None) (with_number ts x.tree) value told
    (λ p is here. tested p is (is_node p.syntax x.node.0) refl here)
  where
    tested : (p : PlacedTree) → with_number ts x.tree ≡ Some p → (b : Bool) → is_node p.syntax x.node.0 ≡ b → ◌≡◌ {A = Option A} (if b then tell p else None) (Some value)
        → IsNodeOf ts x
    tested p is true test here = and_some (with_number ts x.tree) (λ p. HasNode p.syntax x.node.0) p is (ltb-true x.node.0 (1 + node_count p.syntax.children) test)
    tested p is false test here = cc

-- what has an original range is a node
pub ranged_node : (ts : List PlacedTree) (x : NodeId) → IsSome (original_range ts x) → IsNodeOf ts x
ranged_node ts x = by (original ts x) refl
  where
    in_file : Span → FileSpan
    in_file span = record { file = file_of ts x.tree; span = span }

    by : (o : Option Span) → original ts x ≡ o → IsSome (option_map in_file o) → IsNodeOf ts x
    by None is ranged = absurd (false≢true ranged)
    by (Some span) is ranged = told_node (λ p. original_in p (node_of p.syntax x.node.0)) ts x span is

-- a node of a tree that is there is one of the tree's
pub has_node : (w : Workspace) (x : NodeId) (s : Syntax) → tree_of w x.tree ≡ Some s → IsNodeOf (trees w) x → HasNode s x.node.0
has_node w x s is node = in_tree (trees w) x.tree s (λ s. HasNode s x.node.0) (is_tree w x.tree s is) node
