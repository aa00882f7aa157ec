-- Nodes above one another in a tree, told by numbers: the numbers behind a node's own, as many as there are nodes below it.
use Rattle.std.proofs.Common.{◌≡◌, ℕ, zero, suc, ◌+◌, ◌<◌, ◌≤◌, List, ◌∷◌, slice_get, Some, refl, sym, ap, ◌∙◌, subst, inl, inr, arith}
use Rattle.std.proofs.lemmas.Bool.{cases_eq, cases_lt}
use Rattle.ssr_syntax_tree.specs.Syntax.{Forest, nothing, leaf, branch, Syntax, node_count, token_count}
use Rattle.ssr_syntax_tree.specs.Places.{Node, Part, node_part, HasNode, node_of, parts_in, parts_of, size_of}
use Rattle.ssr_syntax_tree.proofs.Places.{node_of-number, below_fits, smaller, IsChild, children_known}
use Rattle.ssr_syntax_tree.proofs.Lists.{all_at}

-- the sibling that is the node n or has it below
pub record Holding (parts : List Part) (n past : ℕ) : Type 0 where
  pub place : ℕ
  pub child : Node
  pub is : slice_get parts place ≡ Some (node_part child)
  pub low : child.number ≤ n
  pub high : n < child.number + size_of child
  pub ends : child.number + size_of child ≤ past

further : (part : Part) (parts : List Part) (n past more : ℕ) → past ≤ more → Holding parts n past → Holding (part ∷ parts) n more
further part parts n past more le h =
    let e = h.ends in
    record { place = suc h.place; child = h.child; is = h.is; low = h.low; high = h.high; ends = omega arith }

pub holding : (parent m t n : ℕ) (forest : Forest) → m ≤ n → n < m + node_count forest → Holding (parts_in parent m t forest) n (m + node_count forest)
holding parent m t n nothing low high = absurd (omega arith)
holding parent m t n (leaf token next) low high =
    further _ (parts_in parent m (1 + t) next) n (m + node_count next) (m + node_count next) (omega arith) (holding parent m (1 + t) n next low high)
holding parent m t n (branch kind below next) low high =
    elim (cases_lt n (1 + m + node_count below)) [
      | inl within ↦
          record {
            place = 0;
            child = record { number = m; parent = parent; first = t; kind = kind; children = below };
            is = refl;
            low = low;
            high = omega arith;
            ends = omega arith;
          }
      | inr past ↦
          further _ (parts_in parent (1 + m + node_count below) (t + token_count below) next) n
          (1 + m + node_count below + node_count next) (m + node_count (branch kind below next)) (omega arith)
          (holding parent (1 + m + node_count below) (t + token_count below) n next past (omega arith))
    ]

-- one node has another one below it
abbrev pub IsOver : Syntax → ℕ → ℕ → Type 0
IsOver s a n = (a < n) × (n < a + size_of (node_of s a))

-- of a node below another one: its parent is that one or below it too
pub record IsInside (s : Syntax) (a n : ℕ) : Type 0 where
  pub low : a ≤ (node_of s n).parent
  pub parent : IsOver s (node_of s n).parent n
  pub ends : n + size_of (node_of s n) ≤ a + size_of (node_of s a)

inside_by : (s : Syntax) (bound a n : ℕ) → size_of (node_of s a) ≤ bound → HasNode s a → IsOver s a n → IsInside s a n
inside_by s zero a n small has over = absurd (omega arith)
inside_by s (suc bound) a n small has over =
    let node = node_of s a in
    let number : node.number ≡ a = node_of-number s a has in
    let hold = holding node.number (1 + node.number) node.first n node.children (omega (arith, over.0)) (omega (arith, over.1)) in
    let c = hold.child in
    let child : IsChild s a (node_part c) = all_at (IsChild s a) (parts_of node) hold.place (node_part c) (children_known s a has) hold.is in
    let size : size_of (node_of s c.number) ≡ size_of c = ap size_of child.1 in
    let above = child.3 in
    let low = hold.low in
    let high = hold.high in
    let ends = hold.ends in
    elim (cases_eq c.number n) [
      | inl same ↦
          let own : node_of s n ≡ c = ap (node_of s) (sym same) ∙ child.1 in
          let parent : (node_of s n).parent ≡ a = ap (λ (x : Node). x.parent) own ∙ child.2 in
          let own_size : size_of (node_of s n) ≡ size_of c = ap size_of own in
          record {
            low = omega arith;
            parent = subst (λ p. IsOver s p n) (sym parent) over;
            ends = omega arith;
          }
      | inr other ↦
          let inner = inside_by s bound c.number n (omega (arith, smaller s a c.number has above)) child.0 (omega arith, omega arith) in
          let inner_low = inner.low in
          let inner_ends = inner.ends in
          record { low = omega (arith, above.0); parent = inner.parent; ends = omega arith }
    ]

pub inside : (s : Syntax) (a n : ℕ) → HasNode s a → IsOver s a n → IsInside s a n
inside s a n has over = inside_by s (size_of (node_of s a)) a n (omega arith) has over

pub root_size : (s : Syntax) → size_of (node_of s 0) ≡ 1 + node_count s.children
unfolding node_of
root_size s = refl

-- each node but the root is below the root
pub below_root : (s : Syntax) (n : ℕ) → HasNode s n → 0 < n → IsOver s 0 n
below_root s n has inner = (inner, omega (arith, root_size s))

pub over_within : (s : Syntax) (a n : ℕ) → HasNode s a → IsOver s a n → HasNode s n
over_within s a n has over = omega (arith, below_fits s a has, over.1)
