-- The nodes of trees, and what stands above them, while one tree after another is put in.
use Rattle.std.proofs.Common.{◌≡◌, ◌≢◌, ◌<◌, ◌==◌, List, [], ◌∷◌, length, Some, None, ap, ◌∙◌, subst, inl, inr, ◌⊎◌, arith, eq-eqb, ne_eqb}
use Rattle.std.proofs.lemmas.Bool.{cases_eq, cond-true, cond-false}
use Rattle.std.specs.Prelude.{if◌then◌else◌}
use Rattle.std.specs.Option.{IsSomeAnd, option_and_then}
use Rattle.ssr_syntax_tree.specs.Places.{HasNode, node_of}
use Rattle.ssr_base_trees.specs.declared.ids.NodeId.{NodeId}
use Rattle.ssr_base_trees.specs.Workspace.{PlacedTree, node_id, has_node, above_in, above}
use Rattle.ssr_base_trees.specs.Built.{IsNodeOf}
use Rattle.ssr_base_trees.proofs.Shared.{placed_first, placed_earlier, told_is}

-- ** Which tree has a node.

abbrev HasNumber : NodeId → PlacedTree → Type 0
HasNumber x p = HasNode p.syntax x.node.0

-- a node is one of the first tree or one of the others
pub first_or_earlier : (p : PlacedTree) (earlier : List PlacedTree) (x : NodeId) → IsNodeOf (p ∷ earlier) x
    → ((x.tree ≡ length earlier) × HasNode p.syntax x.node.0) ⊎ ((x.tree ≢ length earlier) × IsNodeOf earlier x)
first_or_earlier p earlier x node =
    elim (cases_eq x.tree (length earlier)) [
      | inl here ↦ inl (here, subst (λ o. IsSomeAnd o (HasNumber x)) (placed_first p earlier x.tree here) node)
      | inr other ↦ inr (other, subst (λ o. IsSomeAnd o (HasNumber x)) (placed_earlier p earlier x.tree other) node)
    ]

pub node_within : (trees : List PlacedTree) (x : NodeId) → IsNodeOf trees x → x.tree < length trees
node_within [] x node = absurd node
node_within (p ∷ earlier) x node =
    elim (first_or_earlier p earlier x node) [ inl here ↦ omega (arith, here.0) | inr other ↦ omega (arith, node_within earlier x other.1) ]

-- ** What stands above.

above_first : (p : PlacedTree) (earlier : List PlacedTree) (x : NodeId) → x.tree ≡ length earlier → HasNode p.syntax x.node.0 → above (p ∷ earlier) x ≡ above_in x p
above_first p earlier x here has = told_is (above_in x) (p ∷ earlier) x p (placed_first p earlier x.tree here) has

pub above_root : (p : PlacedTree) (earlier : List PlacedTree) (x : NodeId) → x.tree ≡ length earlier → x.node.0 ≡ 0 → above (p ∷ earlier) x ≡ p.call
above_root p earlier x here root =
    above_first p earlier x here (omega arith)
    ∙ cond-true (x.node.0 == 0) p.call (Some (node_id x.tree (node_of p.syntax x.node.0).parent)) (eq-eqb x.node.0 0 root)

pub above_inner : (p : PlacedTree) (earlier : List PlacedTree) (x : NodeId) → x.tree ≡ length earlier → HasNode p.syntax x.node.0 → x.node.0 ≢ 0
    → above (p ∷ earlier) x ≡ Some (node_id x.tree (node_of p.syntax x.node.0).parent)
above_inner p earlier x here has inner =
    above_first p earlier x here has
    ∙ cond-false (x.node.0 == 0) p.call (Some (node_id x.tree (node_of p.syntax x.node.0).parent)) (ne_eqb x.node.0 0 inner)

pub above_earlier : (p : PlacedTree) (earlier : List PlacedTree) (x : NodeId) → x.tree ≢ length earlier → above (p ∷ earlier) x ≡ above earlier x
above_earlier p earlier x other =
    ap (λ o. option_and_then (λ q. if has_node q.syntax x.node.0 then above_in x q else None) o) (placed_earlier p earlier x.tree other)

pub same_numbers : (a b : NodeId) → a.tree ≡ b.tree → a.node.0 ≡ b.node.0 → a ≡ b
same_numbers a b tree node = ap (λ t. node_id t a.node.0) tree ∙ ap (node_id b.tree) node
