-- The paths of a tree that are spelled so, up to a node.
use Rattle.std.proofs.Common.{◌≡◌, ◌↔◌, inl, inr, ℕ, ◌+◌, ◌<◌, List, [], ◌∷◌, ◌++◌, Contains, refl, sym, ap, ◌∙◌, subst, arith}
use Rattle.std.proofs.lemmas.Bool.{cases_lt}
use Rattle.std.proofs.lemmas.List.Elements.{Contains-append_left, Contains-push, Contains-push_cases}
use Rattle.ssr_syntax_tree.specs.Places.{HasNode}
use Rattle.ssr_syntax_tree.specs.Syntax.{Syntax}
use Rattle.ssr_base_trees.specs.declared.ids.NodeId.{NodeId}
use Rattle.ssr_base_trees.specs.Workspace.{node_id}
use Rattle.ssr_uses.specs.OneFunction.{IsPath, IsPathOf}

module _ (tree : Syntax) (number : ℕ) (spelled : List ℕ) where
  abbrev pub IsBefore : ℕ → NodeId → Type 0
  IsBefore n path = IsPathOf tree number spelled path × (path.node.0 < n)

  abbrev pub AreUpTo : ℕ → List NodeId → Type 0
  AreUpTo n paths = (path : NodeId) → Contains paths path ↔ IsBefore n path

  is_id : (n : ℕ) (path : NodeId) → path.tree ≡ number → path.node.0 ≡ n → node_id number n ≡ path
  is_id n path is_tree is_node = ap (λ (x : ℕ). node_id x n) (sym is_tree) ∙ ap (λ (x : ℕ). node_id path.tree x) (sym is_node)

  pub passed : (n : ℕ) (paths : List NodeId) → AreUpTo n paths → (IsPath tree spelled n → ⊥) → AreUpTo (n + 1) paths
  passed n paths are other path = (
    (λ has. let before = (are path).0 has in (before.0, omega arith)),
    (λ is. elim (cases_lt path.node.0 n) [
      | inl before ↦ (are path).1 (is.0, before)
      | inr behind ↦ let same : path.node.0 ≡ n = omega arith in absurd (other (subst (IsPath tree spelled) same is.0.2))
    ]),
  )

  pub taken : (n : ℕ) (paths grown : List NodeId) → AreUpTo n paths → HasNode tree n → IsPath tree spelled n → grown ≡ paths ++ node_id number n ∷ []
      → AreUpTo (n + 1) grown
  taken n paths grown are has is_path is path =
      let IsIn : List NodeId → Type 0 = λ all. Contains all path in
      let node : IsBefore (n + 1) (node_id number n) = ((refl, has, is_path), omega arith) in (
        (λ it. elim (Contains-push_cases paths (node_id number n) path (subst IsIn is it)) [
          | inl old ↦ let before = (are path).0 old in (before.0, omega arith)
          | inr new ↦ subst (IsBefore (n + 1)) new node
        ]),
        (λ known. elim (cases_lt path.node.0 n) [
          | inl before ↦ subst IsIn (sym is) (Contains-append_left paths (node_id number n ∷ []) path ((are path).1 (known.0, before)))
          | inr behind ↦
              let same : path.node.0 ≡ n = omega arith in
              subst IsIn (sym is) (subst (Contains (paths ++ node_id number n ∷ [])) (is_id n path known.0.0 same) (Contains-push paths (node_id number n)))
        ]),
      )
