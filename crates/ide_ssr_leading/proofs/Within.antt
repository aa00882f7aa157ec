-- The numbers of nodes below another one.
use Rattle.std.proofs.Common.{◌≡◌, ℕ, zero, suc, ◌+◌, ◌≤◌, List, ◌∷◌, sym, ap, ◌∙◌, subst, arith}
use Rattle.ssr_syntax_tree.specs.Places.{Node, HasNode, node_of, parts_in, size_of}
use Rattle.ssr_syntax_tree.specs.Syntax.{Forest, nothing, leaf, branch, Syntax}
use Rattle.ssr_syntax_tree.proofs.Shared.{IsOver, inside, below_root}
use Rattle.ide_ssr_matching.specs.Calls.{nodes_among, child_nodes}
use Rattle.ide_ssr_leading.proofs.Facts.{Below, IsNodeIn}
use Rattle.ide_ssr_leading.proofs.Way.{IsChildIn, is_child}

-- a node has all nodes of another one at or below it
pub record IsWithin (q p : Node) : Type 0 where
  pub low : p.number ≤ q.number
  pub high : q.number + size_of q ≤ p.number + size_of p

child_within : (s : Syntax) (p child : Node) → IsNodeIn s p → IsChildIn s p child → IsWithin child p
child_within s p child is known =
    let node = known.node in
    let behind = known.behind in
    let root : HasNode s 0 = omega arith in
    let parent : (node_of s child.number).parent ≡ p.number = ap (λ (x : Node). x.parent) node.is ∙ known.parent in
    let above : IsOver s p.number child.number =
    subst (λ a. IsOver s a child.number) parent (inside s 0 child.number root (below_root s child.number node.has (omega arith))).parent
    in
    let ends = (inside s p.number child.number is.has above).ends in
    let inner : size_of (node_of s child.number) ≡ size_of child = ap size_of node.is in
    let outer : size_of (node_of s p.number) ≡ size_of p = ap size_of is.is in
    record { low = omega arith; high = omega arith }

pub within : (s : Syntax) (d : ℕ) (q p : Node) → IsNodeIn s p → Below q p d → IsWithin q p
within s zero q p is below =
    let number : q.number ≡ p.number = ap (λ (x : Node). x.number) below in
    let size : size_of q ≡ size_of p = ap size_of below in
    record { low = omega arith; high = omega arith }
within s (suc d) q p is below =
    let child = below.0 in
    let known = is_child s p child is below.1 in
    let upper = child_within s p child is known in
    let lower = within s d q child known.node below.2 in
    let low = upper.low in
    let high = upper.high in
    let inner_low = lower.low in
    let inner_high = lower.high in
    record { low = omega arith; high = omega arith }

pub over : (s : Syntax) (d : ℕ) (q p : Node) → IsNodeIn s p → Below q p (suc d) → IsOver s p.number q.number
over s d q p is below =
    let child = below.0 in
    let known = is_child s p child is below.1 in
    let behind = known.behind in
    let whole = within s (suc d) q p is below in
    let high = whole.high in
    let lower = within s d q child known.node below.2 in
    let low = lower.low in
    let size : size_of (node_of s p.number) ≡ size_of p = ap size_of is.is in
    (omega arith, omega arith)

-- the first node among children has the next number
first_among : (parent m t : ℕ) (forest : Forest) (first : Node) (rest : List Node) → nodes_among (parts_in parent m t forest) ≡ first ∷ rest → first.number ≡ m
first_among parent m t nothing first rest is = cc
first_among parent m t (leaf token next) first rest is = first_among parent m (1 + t) next first rest is
first_among parent m t (branch kind below next) first rest is =
    let same : record { number = m; parent = parent; first = t; kind = kind; children = below } ≡ first = cc in
    sym (ap (λ (node : Node). node.number) same)

pub first_number : (p first : Node) (rest : List Node) → child_nodes p ≡ first ∷ rest → first.number ≡ p.number + 1
first_number p first rest is =
    let next = first_among p.number (1 + p.number) p.first p.children first rest is in omega arith
