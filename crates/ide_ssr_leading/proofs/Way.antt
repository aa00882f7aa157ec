-- The way down from a node to one below it, child by child.
use Rattle.std.proofs.Common.{◌≡◌, ℕ, zero, suc, ◌+◌, ◌<◌, ◌≤◌, List, [], ◌∷◌, All, slice_get, Some, refl, sym, ap, ◌∙◌, subst, inl, inr, arith}
use Rattle.std.proofs.lemmas.Bool.{cases_eq}
use Rattle.std.proofs.lemmas.List.Elements.{All-head, All-tail}
use Rattle.ssr_syntax_tree.proofs.Lists.{all_at}
use Rattle.ssr_syntax_tree.proofs.Shared.{IsChild, children_known, node_of-number, smaller, holding, root_size, depth_at-root, depth_at-parent}
use Rattle.ssr_syntax_tree.specs.Places.{Node, Part, token_part, node_part, HasNode, node_of, root_of, parts_of, size_of, depth_at}
use Rattle.ssr_syntax_tree.specs.Syntax.{Syntax}
use Rattle.ide_ssr_matching.specs.Calls.{nodes_among, child_nodes}
use Rattle.ide_ssr_leading.proofs.Facts.{IsAmong, Below, IsNodeIn}

-- ** Nodes among others.

-- what is true of all parts is of a node among them
among_all : (P : Part → Type 0) (parts : List Part) (node : Node) → All P parts → IsAmong (nodes_among parts) node → P (node_part node)
among_all P [] node all among = absurd among
among_all P (token_part t token ∷ rest) node all among = among_all P rest node (All-tail P (token_part t token) rest all) among
among_all P (node_part first ∷ rest) node all (inl same) = subst (λ n. P (node_part n)) (sym same) (All-head P (node_part first) rest all)
among_all P (node_part first ∷ rest) node all (inr later) = among_all P rest node (All-tail P (node_part first) rest all) later

-- a node that is one of some parts
part_among : (parts : List Part) (place : ℕ) (node : Node) → slice_get parts place ≡ Some (node_part node) → IsAmong (nodes_among parts) node
part_among [] place node is = cc
part_among (token_part t token ∷ rest) zero node is = cc
part_among (token_part t token ∷ rest) (suc place) node is = part_among rest place node is
part_among (node_part first ∷ rest) zero node is = inl (let same : node ≡ first = cc in same)
part_among (node_part first ∷ rest) (suc place) node is = inr (part_among rest place node is)

-- ** Nodes of a tree.

pub node_in : (s : Syntax) (n : ℕ) → HasNode s n → IsNodeIn s (node_of s n)
node_in s n has =
    let number = node_of-number s n has in
    record { has = subst (HasNode s) (sym number) has; is = ap (node_of s) number }

pub root_in : (s : Syntax) → IsNodeIn s (root_of s)
unfolding node_of
root_in s = record { has = omega arith; is = refl }

-- of a child of a node, which is a node too: its parent, and that it stands behind that
pub record IsChildIn (s : Syntax) (p child : Node) : Type 0 where
  pub node : IsNodeIn s child
  pub parent : child.parent ≡ p.number
  pub behind : p.number < child.number

pub is_child : (s : Syntax) (p child : Node) → IsNodeIn s p → IsAmong (child_nodes p) child → IsChildIn s p child
is_child s p child is among =
    let known : IsChild s p.number (node_part child) =
    among_all (IsChild s p.number) (parts_of p) child (subst (λ node. All (IsChild s p.number) (parts_of node)) is.is (children_known s p.number is.has)) among
    in
    let above = known.3.0 in
    let number = node_of-number s p.number is.has in
    record { node = record { has = known.0; is = known.1 }; parent = known.2; behind = omega arith }

pub below_in : (s : Syntax) (d : ℕ) (q p : Node) → IsNodeIn s p → Below q p d → IsNodeIn s q
below_in s zero q p is below = subst (IsNodeIn s) (sym below) is
below_in s (suc d) q p is below = below_in s d q below.0 (is_child s p below.0 is below.1).node below.2

-- ** The way down.

-- the way from a node down to the one of a number, which is as long as the one is deeper
record IsWay (s : Syntax) (a n : ℕ) : Type 0 where
  steps : ℕ
  deeper : depth_at s n ≡ steps + depth_at s a
  below : Below (node_of s n) (node_of s a) steps

way : (s : Syntax) (bound a n : ℕ) → size_of (node_of s a) ≤ bound → HasNode s a → a ≤ n → n < a + size_of (node_of s a) → IsWay s a n
way s zero a n small has low high = absurd (omega arith)
way s (suc bound) a n small has low high =
    elim (cases_eq a n) [
      | inl same ↦ record { steps = 0; deeper = ap (depth_at s) (sym same) ∙ omega arith; below = ap (node_of s) (sym same) }
      | inr other ↦
          let node = node_of s a in
          let number : node.number ≡ a = node_of-number s a has in
          let hold = holding node.number (1 + node.number) node.first n node.children (omega arith) (omega arith) in
          let c = hold.child in
          let child : IsChild s a (node_part c) = all_at (IsChild s a) (parts_of node) hold.place (node_part c) (children_known s a has) hold.is in
          let size : size_of (node_of s c.number) ≡ size_of c = ap size_of child.1 in
          let above = child.3 in
          let hold_low = hold.low in
          let hold_high = hold.high in
          let rest = way s bound c.number n (omega (arith, smaller s a c.number has above)) child.0 hold_low (omega arith) in
          let deeper = rest.deeper in
          let parent : depth_at s c.number ≡ 1 + depth_at s a =
          depth_at-parent s c.number child.0 (omega (arith, above.0)) ∙ ap (λ p. 1 + depth_at s p) (ap (λ (x : Node). x.parent) child.1 ∙ child.2)
          in
          record {
            steps = suc rest.steps;
            deeper = omega arith;
            below = (c, part_among (parts_of node) hold.place c hold.is, subst (λ top. Below (node_of s n) top rest.steps) child.1 rest.below);
          }
    ]

-- a node stands as many steps below the root as it is deep
pub way_down : (s : Syntax) (n : ℕ) → HasNode s n → Below (node_of s n) (root_of s) (depth_at s n)
way_down s n has =
    let found = way s (size_of (node_of s 0)) 0 n (omega arith) (omega arith) (omega arith) (omega (arith, root_size s)) in
    let deeper = found.deeper in
    let deep : found.steps ≡ depth_at s n = omega (arith, depth_at-root s) in
    subst (λ d. Below (node_of s n) (root_of s) d) deep (subst (λ top. Below (node_of s n) top found.steps) (root_in s).is found.below)
