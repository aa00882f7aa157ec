-- Which nodes stand in the function around the position.
use Rattle.std.proofs.Common.{◌≡◌, ℕ, zero, suc, ◌<◌, ◌≤◌, Bool, List, Option, Some, None, refl, sym, ap, ◌∙◌, subst, inl, inr, arith}
use Rattle.std.proofs.lemmas.Bool.{cases_eq}
use Rattle.std.proofs.lemmas.Option.{none-some, same_Some}
use Rattle.std.specs.Prelude.{◌↔◌, IsTrue}
use Rattle.std.specs.Option.{IsSomeAnd}
use Rattle.ssr_syntax_tree.specs.Syntax.{Syntax}
use Rattle.ssr_syntax_tree.specs.Places.{HasNode}
use Rattle.ssr_base_trees.specs.declared.ids.NodeId.{NodeId}
use Rattle.ssr_base_trees.specs.Workspace.{Workspace, PlacedTree, trees, node_id, above}
use Rattle.ssr_base_trees.specs.Laws.{IsBelow, climbed}
use Rattle.ssr_base_trees.specs.Built.{IsBuilt}
use Rattle.ssr_base_trees.proofs.Shared.{is_up}
use Rattle.ide_ssr_bindings.specs.Found.{IsAtOrBelow}
use Rattle.ide_ssr_search.specs.Permitted.{IsInFunction}
use Rattle.ide_ssr_search.specs.Private.KnownTrees.{StandsIn}
use Rattle.ide_ssr_bindings.proofs.Shared.{IsTree}
use Rattle.ide_ssr_search.proofs.Trees.{then_some, split, over_below, root_below, up_below, below_up}

-- what stands above the root of a tree is no node of it
climbed_earlier : (w : Workspace) (b : IsBuilt w) (n : ℕ) (x a : NodeId) → climbed (trees w) n x ≡ Some a → a.tree ≤ x.tree
climbed_earlier w b zero x a is = let same : x.tree ≡ a.tree = ap (λ (x : NodeId). x.tree) (same_Some x a is) in omega arith
climbed_earlier w b (suc n) x a is =
    let first = then_some (climbed (trees w) n) (above (trees w) x) a is in
    let on = climbed_earlier w b n first.0 a first.2 in
    elim (is_up (trees w) x first.0 b.grown first.1).earlier [
      | inl before ↦ omega arith
      | inr same ↦ omega (arith, same.0)
    ]

pub root_earlier : (w : Workspace) (b : IsBuilt w) (t : ℕ) (a : NodeId) → IsBelow (trees w) (node_id t 0) a → a.tree < t
root_earlier w b t a below =
    let first = then_some (climbed (trees w) below.0) (above (trees w) (node_id t 0)) a below.1 in
    let on = climbed_earlier w b below.0 first.0 a first.2 in
    elim (is_up (trees w) (node_id t 0) first.0 b.grown first.1).earlier [
      | inl before ↦ omega arith
      | inr same ↦ absurd (omega (arith, same.1))
    ]

module _ (w : Workspace) (b : IsBuilt w) (t : ℕ) (s : Syntax) (at : IsTree (trees w) t s) where
  pub stands_in : (function : Option NodeId) (inside : Bool) (n : ℕ) → HasNode s n → IsTrue inside ↔ IsSomeAnd function (IsBelow (trees w) (node_id t 0))
      → StandsIn function s t inside n ↔ IsInFunction (trees w) function (node_id t n)
  stands_in None inside n has known = (λ no. no, λ no. no)
  stands_in (Some f) inside n has known = (
    λ stands. elim stands [
      | inl above ↦ inr (root_below (trees w) t s at n has f (known.0 above.1))
      | inr here ↦
          elim (cases_eq f.node.0 n) [
            | inl same ↦
                subst (IsAtOrBelow (trees w) (node_id t n)) (ap (λ m. node_id t m) (sym same) ∙ ap (λ tree. node_id tree f.node.0) (sym here.0)) (inl refl)
            | inr other ↦
                subst (IsAtOrBelow (trees w) (node_id t n)) (ap (λ tree. node_id tree f.node.0) (sym here.0))
                (inr (over_below (trees w) t s at f.node.0 n has (omega (arith, here.2), here.3)))
          ]
    ],
    λ up. elim up [
      | inl same ↦
          let number : n ≡ f.node.0 = ap (λ (x : NodeId). x.node.0) same in
          inr (ap (λ (x : NodeId). x.tree) (sym same), subst (HasNode s) number has, omega arith, omega arith)
      | inr below ↦
          elim (split (trees w) t s at n has f below) [
            | inl over ↦ inr (over.0, omega (arith, over.1.0, has), omega (arith, over.1.0), over.1.1)
            | inr root ↦
                let before = root_earlier w b t f root in
                inl (λ same. omega arith, known.1 root)
          ]
    ],
  )

-- the root of a tree stands below the function if its call stands in it
pub root_inside : (ts : List PlacedTree) (root call : NodeId) (function : Option NodeId) → above ts root ≡ Some call
    → IsSomeAnd function (IsBelow ts root) ↔ IsInFunction ts function call
root_inside ts root call None up = (λ no. no, λ no. no)
root_inside ts root call (Some f) up = (below_up ts root call f up, up_below ts root call f up)

-- that of a file doesn't
pub file_outside : (ts : List PlacedTree) (root : NodeId) (function : Option NodeId) → above ts root ≡ None → IsSomeAnd function (IsBelow ts root) → ⊥
file_outside ts root None up below = below
file_outside ts root (Some f) up below =
    let first = then_some (climbed ts below.0) (above ts root) f below.1 in
    none-some first.0 (sym up ∙ first.1)
