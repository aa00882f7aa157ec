-- Which nodes are shut in, told by how far the nodes reach that came before and shut in what is below them.
use Rattle.std.proofs.Common.{◌≡◌, ℕ, ◌+◌, ◌<◌, ◌≤◌, max, List, Some, refl, sym, subst, inl, inr, ◌⊎◌, arith}
use Rattle.std.proofs.lemmas.Bool.{cases_lt, ltb-true, lt-ltb}
use Rattle.std.specs.Prelude.{◌↔◌, nat_lt, IsTrue}
use Rattle.ssr_syntax_tree.specs.Syntax.{Syntax}
use Rattle.ssr_syntax_tree.specs.Places.{HasNode, node_of, size_of}
use Rattle.ssr_base_trees.specs.declared.ids.NodeId.{NodeId}
use Rattle.ssr_base_trees.specs.Workspace.{PlacedTree, node_id, above}
use Rattle.ide_ssr_search.specs.Private.Shut.{Shuts, IsShutIn, IsShut, TellsPast}
use Rattle.ide_ssr_bindings.proofs.Shared.{IsTree}
use Rattle.ide_ssr_search.proofs.Trees.{split, over_below, root_below, up_below, below_up}

-- of the nodes of a tree up to before the number n, one that has the number m among those below it
abbrev ShutsBefore : List PlacedTree → ℕ → Syntax → ℕ → ℕ → Type 0
ShutsBefore trees t syntax n m = (a : ℕ) × (a < n) × Shuts trees (node_id t a) × (m < a + size_of (node_of syntax a))

-- of the nodes from n on, those before `past` are shut in by what stands above the tree, or by a node before n
pub record IsPast (trees : List PlacedTree) (t : ℕ) (syntax : Syntax) (n past : ℕ) : Type 0 where
  pub known : (m : ℕ) → n ≤ m → HasNode syntax m → (m < past) ↔ (IsShutIn trees (node_id t 0) ⊎ ShutsBefore trees t syntax n m)

module _ (ts : List PlacedTree) (t : ℕ) (s : Syntax) (at : IsTree ts t s) where
  -- a node is shut in by what stands above its tree, or by a node of the tree before it
  from_shut : (n : ℕ) → HasNode s n → IsShutIn ts (node_id t n) → IsShutIn ts (node_id t 0) ⊎ ShutsBefore ts t s n n
  from_shut n has shut =
      elim (split ts t s at n has shut.0 shut.1) [
        | inl over ↦
            inr (shut.0.node.0, over.1.0, subst (λ tree. Shuts ts (node_id tree shut.0.node.0)) over.0 shut.2, over.1.1)
        | inr root ↦ inl (shut.0, root, shut.2)
      ]

  to_shut : (n : ℕ) → HasNode s n → IsShutIn ts (node_id t 0) ⊎ ShutsBefore ts t s n n → IsShutIn ts (node_id t n)
  to_shut n has (inl root) = (root.0, root_below ts t s at n has root.0 root.1, root.2)
  to_shut n has (inr before) = (node_id t before.0, over_below ts t s at before.0 n has (before.1, before.3), before.2)

  -- a node is shut in if it comes before that number
  pub past_now : (n past : ℕ) → HasNode s n → IsPast ts t s n past → (n < past) ↔ IsShutIn ts (node_id t n)
  past_now n past has so_far =
      let known = so_far.known n (omega arith) has in
      (λ before. to_shut n has (known.0 before), λ shut. known.1 (from_shut n has shut))

  here_before : (n own past new m : ℕ) → TellsPast ts t s n own → new ≡ max own past → m < new → (m < past) ⊎ (Shuts ts (node_id t n) × (m < n + size_of (node_of s n)))
  here_before n own past new m (inl none) is before = let e = none.0 in inl (omega arith)
  here_before n own past new m (inr some) is before =
      let e = some.0 in
      elim (cases_lt m past) [ inl early ↦ inl early | inr late ↦ inr (some.1, omega arith) ]

  here_reaches : (n own : ℕ) → TellsPast ts t s n own → Shuts ts (node_id t n) → own ≡ n + size_of (node_of s n)
  here_reaches n own (inl none) shuts = absurd (none.1 shuts)
  here_reaches n own (inr some) shuts = some.0

  pub past_turn : (n own past new : ℕ) → HasNode s n → IsPast ts t s n past → TellsPast ts t s n own → new ≡ max own past → IsPast ts t s (n + 1) new
  past_turn n own past new has so_far tells is =
      record {
        known = λ m low has_m.
            let known = so_far.known m (omega arith) has_m in (
              λ before. elim (here_before n own past new m tells is before) [
                | inl early ↦
                    elim (known.0 early) [ inl root ↦ inl root | inr b ↦ inr (b.0, omega (arith, b.1), b.2, b.3) ]
                | inr here ↦ inr (n, omega arith, here.0, here.1)
              ],
              λ shut. elim shut [
                | inl root ↦ let early = known.1 (inl root) in omega arith
                | inr b ↦
                    elim (cases_lt b.0 n) [
                      | inl earlier ↦ let early = known.1 (inr (b.0, earlier, b.2, b.3)) in omega arith
                      | inr later ↦
                          let same : b.0 ≡ n = omega (arith, b.1) in
                          let reach = here_reaches n own tells (subst (λ a. Shuts ts (node_id t a)) same b.2) in
                          let over : m < n + size_of (node_of s n) = subst (λ a. m < a + size_of (node_of s a)) same b.3 in
                          omega arith
                    ]
              ],
            );
      }

  -- it shuts in what is below it if it or a node above it does so
  pub past_call : (n own past new : ℕ) → HasNode s n → IsPast ts t s n past → TellsPast ts t s n own → new ≡ max own past → (n < new) ↔ IsShut ts (node_id t n)
  past_call n own past new has so_far tells is =
      let now = past_now n past has so_far in (
        λ before. elim (here_before n own past new n tells is before) [
          | inl early ↦ let shut = now.0 early in (shut.0, inr shut.1, shut.2)
          | inr here ↦ (node_id t n, inl refl, here.0)
        ],
        λ shut. elim shut.1 [
          | inl same ↦
              let reach = here_reaches n own tells (subst (Shuts ts) (sym same) shut.2) in
              omega arith
          | inr below ↦ let early = now.1 (shut.0, below, shut.2) in omega arith
        ],
      )

-- the test of numbers
pub tested : (m n : ℕ) (P : Type 0) → (m < n) ↔ P → IsTrue (nat_lt m n) ↔ P
tested m n P known = (λ is. known.0 (ltb-true m n is), λ p. lt-ltb m n (known.1 p))

-- ** Calls.

-- the root of what a call stands for is shut in as what is directly below the call
pub root_shut : (ts : List PlacedTree) (root call : NodeId) → above ts root ≡ Some call → IsShutIn ts root ↔ IsShut ts call
root_shut ts root call up =
    (λ shut. (shut.0, below_up ts root call shut.0 up shut.1, shut.2), λ shut. (shut.0, up_below ts root call shut.0 up shut.1, shut.2))
