-- The parent of a node stands before it, and has the node's tokens among its own.
use Rattle.std.proofs.Common.{◌≡◌, ℕ, suc, ◌+◌, ◌<◌, ◌≤◌, List, ◌∷◌, ◌++◌, length, slice_get, Some, refl, sym, ap, ◌∙◌, subst, inl, inr, arith}
use Rattle.std.proofs.lemmas.Bool.{cases_eq, cases_lt}
use Rattle.std.proofs.lemmas.Option.{slice_get_within}
use Rattle.std.specs.Prelude.{unwrap_or}
use Rattle.ssr_syntax_tree.specs.Syntax.{Forest, nothing, leaf, branch, Syntax, node_count, token_count}
use Rattle.ssr_syntax_tree.specs.Places.{Node, HasNode, nodes_in, nodes_of, node_of, root_of}
use Rattle.ssr_syntax_tree.proofs.Shared.{length-nodes_in}
use Rattle.ssr_base_trees.proofs.Numbers.{slice_get-append_left, slice_get-append_right}

-- the tokens of a node are among those of another one
pub record HoldsTokens (outer inner : Node) : Type 0 where
  pub starts : outer.first ≤ inner.first
  pub ends : inner.first + token_count inner.children ≤ outer.first + token_count outer.children

-- a node under the number n
record StandsBelow (syntax : Syntax) (n : ℕ) (node : Node) : Type 0 where
  before : node.parent < n
  holds : HoldsTokens (node_of syntax node.parent) node

-- a tree has these nodes from the number m on
abbrev Stand : Syntax → ℕ → List Node → Type 0
Stand syntax m nodes = (i : ℕ) (node : Node) → slice_get nodes i ≡ Some node → node_of syntax (m + i) ≡ node

stand_front : (syntax : Syntax) (m : ℕ) (first : Node) (xs ys : List Node) → Stand syntax m (first ∷ (xs ++ ys)) → Stand syntax (1 + m) xs
stand_front syntax m first xs ys stand i node is =
    ap (node_of syntax) (let next : 1 + m + i ≡ m + suc i = omega arith in next)
    ∙ stand (suc i) node (slice_get-append_left xs ys i (slice_get_within xs i node is) ∙ is)

stand_rest : (syntax : Syntax) (m : ℕ) (first : Node) (xs ys : List Node) → Stand syntax m (first ∷ (xs ++ ys)) → Stand syntax (1 + m + length xs) ys
stand_rest syntax m first xs ys stand i node is =
    ap (node_of syntax) (let next : 1 + m + length xs + i ≡ m + suc (length xs + i) = omega arith in next)
    ∙ stand (suc (length xs + i)) node (slice_get-append_right xs ys i ∙ is)

below_parent : (syntax : Syntax) (parent m t : ℕ) (forest : Forest) → Stand syntax m (nodes_in parent m t forest) → parent < m
    → (node_of syntax parent).first ≤ t → t + token_count forest ≤ (node_of syntax parent).first + token_count (node_of syntax parent).children
    → (n : ℕ) → m ≤ n → n < m + node_count forest → StandsBelow syntax n (node_of syntax n)
below_parent syntax parent m t nothing stand before low high n from to = absurd (omega arith)
below_parent syntax parent m t (leaf token next) stand before low high n from to =
    below_parent syntax parent m (1 + t) next stand before (omega arith) (omega arith) n from to
below_parent syntax parent m t (branch kind below next) stand before low high n from to =
    let node : Node = record { number = m; parent = parent; first = t; kind = kind; children = below } in
    let inside = nodes_in m (1 + m) t below in
    let behind = nodes_in parent (1 + m + node_count below) (t + token_count below) next in
    let count : length inside ≡ node_count below = length-nodes_in m (1 + m) t below in
    let here : node_of syntax m ≡ node = ap (node_of syntax) (let same : m ≡ m + 0 = omega arith in same) ∙ stand 0 node refl in
    elim (cases_eq m n) [
      | inl same ↦
          subst (λ n. StandsBelow syntax n (node_of syntax n)) same
          (subst (StandsBelow syntax m) (sym here) (record { before = before; holds = record { starts = low; ends = omega arith } }))
      | inr other ↦
          elim (cases_lt n (1 + m + node_count below)) [
            | inl within ↦
                let first : (node_of syntax m).first ≡ t = ap (λ (x : Node). x.first) here in
                let tokens : token_count (node_of syntax m).children ≡ token_count below = ap (λ (x : Node). token_count x.children) here in
                below_parent syntax m (1 + m) t below (stand_front syntax m node inside behind stand) (omega arith) (omega arith) (omega arith) n (omega arith) within
            | inr past ↦
                below_parent syntax parent (1 + m + node_count below) (t + token_count below) next
                (subst (λ k. Stand syntax (1 + m + k) behind) count (stand_rest syntax m node inside behind stand))
                (omega arith) (omega arith) (omega arith) n past (omega arith)
          ]
    ]

stand_all : (syntax : Syntax) → Stand syntax 1 (nodes_in 0 1 0 syntax.children)
unfolding node_of
stand_all syntax i node is =
    ap (λ n. unwrap_or (slice_get (nodes_of syntax) n) (root_of syntax)) (let next : 1 + i ≡ suc i = omega arith in next)
    ∙ ap (λ o. unwrap_or o (root_of syntax)) is

root_is : (syntax : Syntax) → node_of syntax 0 ≡ root_of syntax
unfolding node_of
root_is syntax = refl

stands_below : (syntax : Syntax) (n : ℕ) → HasNode syntax n → 0 < n → StandsBelow syntax n (node_of syntax n)
stands_below syntax n has behind =
    let first : (node_of syntax 0).first ≡ 0 = ap (λ (x : Node). x.first) (root_is syntax) in
    let tokens : token_count (node_of syntax 0).children ≡ token_count syntax.children = ap (λ (x : Node). token_count x.children) (root_is syntax) in
    below_parent syntax 0 1 0 syntax.children (stand_all syntax) (omega arith) (omega arith) (omega arith) n (omega arith) (omega arith)

pub parent_before : (syntax : Syntax) (n : ℕ) → HasNode syntax n → 0 < n → (node_of syntax n).parent < n
parent_before syntax n has behind = (stands_below syntax n has behind).before

pub parent_holds : (syntax : Syntax) (n : ℕ) → HasNode syntax n → 0 < n → HoldsTokens (node_of syntax (node_of syntax n).parent) (node_of syntax n)
parent_holds syntax n has behind = (stands_below syntax n has behind).holds
