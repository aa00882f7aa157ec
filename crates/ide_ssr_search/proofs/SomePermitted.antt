-- The nodes that are permitted for a rule, in a workspace that is built, are those of some list, each once.
use Rattle.std.proofs.Common.{◌≡◌, ◌≢◌, ◌↔◌, ℕ, zero, suc, ◌+◌, ◌<◌, AllPairs, List, [], ◌∷◌, ◌++◌, length, get_or, Some, refl, sym, ap, ◌∙◌, subst, inl, inr, ◌⊎◌, arith}
use Rattle.std.specs.Prelude.{Contains}
use Rattle.std.specs.Option.{option_map}
use Rattle.std.proofs.lemmas.List.Elements.{All-nil, All-contains, Contains-append_left, Contains-get_or, Contains-push, Contains-push_cases}
use Rattle.std.proofs.lemmas.List.Quantifiers.{all_pairs_push}
use Rattle.std.proofs.lemmas.Bool.{cases_lt}
use Rattle.std.proofs.lemmas.Option.{same_Some}
use Rattle.ssr_syntax_tree.specs.Syntax.{Syntax, node_count}
use Rattle.ssr_syntax_tree.specs.Places.{HasNode}
use Rattle.ssr_syntax_tree.proofs.Lists.{pairs_none}
use Rattle.ssr_base_trees.specs.declared.ids.NodeId.{NodeId}
use Rattle.ssr_base_trees.specs.Workspace.{Workspace, PlacedTree, trees, with_number, tree_of, node_id}
use Rattle.ssr_base_trees.specs.Built.{IsBuilt}
use Rattle.ssr_base_trees.proofs.Shared.{placed_within, placed_there, some_and}
use Rattle.ide_ssr_bindings.proofs.Shared.{is_tree, of_tree}
use Rattle.ide_ssr_resolved_rule.specs.Resolved.{ResolvedRule}
use Rattle.ide_ssr_search.specs.Context.{Context}
use Rattle.ide_ssr_search.specs.Permitted.{IsPermitted}
use Rattle.ide_ssr_search.specs.Tries.{ArePermitted}
use Rattle.ide_ssr_search.proofs.Deciding.{is_permitted}

-- a node of an earlier tree, or one before a number in this tree
abbrev IsPassed : ℕ → ℕ → NodeId → Type 0
IsPassed t n x = (x.tree < t) ⊎ ((x.tree ≡ t) × (x.node.0 < n))

module _ (w : Workspace) (b : IsBuilt w) (context : Context) (rule : ResolvedRule) where
  -- those that are permitted of the nodes so far
  record ArePassed (t n : ℕ) (xs : List NodeId) : Type 0 where
    once : AllPairs (λ x y. x ≢ y) xs
    are : (x : NodeId) → Contains xs x ↔ (IsPermitted w context rule x × IsPassed t n x)

  abbrev Further : ℕ → ℕ → Type 0
  Further t n = (xs : List NodeId) × ArePassed t n xs

  further : (t n u m : ℕ) (xs : List NodeId) → ArePassed t n xs
      → ((x : NodeId) → IsPermitted w context rule x → IsPassed t n x ↔ IsPassed u m x) → ArePassed u m xs
  further t n u m xs passed same = record {
    once = passed.once;
    are = λ x. (
      λ at. let is = (passed.are x).0 at in (is.0, (same x is.0).0 is.1),
      λ is. (passed.are x).1 (is.0, (same x is.0).1 is.1),
    );
  }

  -- one node more
  node_passed : (t n : ℕ) (x : NodeId) → IsPassed t (n + 1) x → IsPassed t n x ⊎ (node_id t n ≡ x)
  node_passed t n x (inl less) = inl (inl less)
  node_passed t n x (inr here) =
      elim (cases_lt x.node.0 n) [
        | inl less ↦ inl (inr (here.0, less))
        | inr more ↦ inr (let low = here.1 in let number : n ≡ x.node.0 = omega arith in ap (λ t. node_id t n) (sym here.0) ∙ ap (node_id x.tree) number)
      ]

  with_node : (t n : ℕ) (xs : List NodeId) → IsPermitted w context rule (node_id t n) → ArePassed t n xs → ArePassed t (n + 1) (xs ++ node_id t n ∷ [])
  with_node t n xs permitted passed = record {
    once =
        all_pairs_push (λ x y. x ≢ y) xs (node_id t n) passed.once
        (λ k d less same. fresh (get_or xs k d) same ((passed.are (get_or xs k d)).0 (Contains-get_or xs k d less)).1);
    are = λ x. (λ at. told x (Contains-push_cases xs (node_id t n) x at), λ is. held x is.0 (node_passed t n x is.1));
  }
    where
      fresh : (x : NodeId) → x ≡ node_id t n → IsPassed t n x → ⊥
      fresh x same (inl less) = omega (arith, less, ap (λ (x : NodeId). x.tree) same)
      fresh x same (inr here) = omega (arith, here.1, ap (λ (x : NodeId). x.node.0) same)

      wider : (x : NodeId) → IsPassed t n x → IsPassed t (n + 1) x
      wider x (inl less) = inl less
      wider x (inr here) = inr (here.0, let low = here.1 in omega arith)

      told : (x : NodeId) → Contains xs x ⊎ (node_id t n ≡ x) → IsPermitted w context rule x × IsPassed t (n + 1) x
      told x (inl at) = let is = (passed.are x).0 at in (is.0, wider x is.1)
      told x (inr same) = subst (λ x. IsPermitted w context rule x × IsPassed t (n + 1) x) same (permitted, inr (refl, omega arith))

      held : (x : NodeId) → IsPermitted w context rule x → IsPassed t n x ⊎ (node_id t n ≡ x) → Contains (xs ++ node_id t n ∷ []) x
      held x is (inl before) = Contains-append_left xs (node_id t n ∷ []) x ((passed.are x).1 (is, before))
      held x is (inr same) = subst (Contains (xs ++ node_id t n ∷ [])) same (Contains-push xs (node_id t n))

  without_node : (t n : ℕ) (xs : List NodeId) → (IsPermitted w context rule (node_id t n) → ⊥) → ArePassed t n xs → ArePassed t (n + 1) xs
  without_node t n xs not passed = further t n t (n + 1) xs passed (λ x is. (wider x, narrower x is))
    where
      wider : (x : NodeId) → IsPassed t n x → IsPassed t (n + 1) x
      wider x (inl less) = inl less
      wider x (inr here) = inr (here.0, let low = here.1 in omega arith)

      narrower : (x : NodeId) → IsPermitted w context rule x → IsPassed t (n + 1) x → IsPassed t n x
      narrower x is passed =
          elim (node_passed t n x passed) [
            | inl before ↦ before
            | inr same ↦ absurd (not (subst (IsPermitted w context rule) (sym same) is))
          ]

  node_next : (t n : ℕ) (s : Syntax) → tree_of w t ≡ Some s → HasNode s n → (xs : List NodeId) → ArePassed t n xs → Further t (n + 1)
  node_next t n s tree has xs passed =
      elim (is_permitted w b (node_id t n) (of_tree (trees w) t s (λ s. HasNode s n) (is_tree w t s tree) has) context rule) [
        | inl permitted ↦ (xs ++ node_id t n ∷ [], with_node t n xs permitted passed)
        | inr not ↦ (xs, without_node t n xs not passed)
      ]

  nodes_next : (t : ℕ) (s : Syntax) → tree_of w t ≡ Some s → (left n : ℕ) → n + left ≡ 1 + node_count s.children → (xs : List NodeId) → ArePassed t n xs
      → Further t (1 + node_count s.children)
  nodes_next t s tree zero n all xs passed = (xs, subst (λ n. ArePassed t n xs) (let e : n ≡ 1 + node_count s.children = omega arith in e) passed)
  nodes_next t s tree (suc left) n all xs passed =
      let next = node_next t n s tree (omega arith) xs passed in
      nodes_next t s tree left (n + 1) (omega arith) next.0 next.1

  -- a node that is permitted is one of a tree
  node_within : (x : NodeId) (p : PlacedTree) → with_number (trees w) x.tree ≡ Some p → IsPermitted w context rule x → HasNode p.syntax x.node.0
  node_within x p is permitted =
      let there = some_and (with_number (trees w) x.tree) (λ p. HasNode p.syntax x.node.0) permitted.open_to_all.node in
      subst (λ (p : PlacedTree). HasNode p.syntax x.node.0) (same_Some there.0 p (sym there.1 ∙ is)) there.2

  tree_next : (t : ℕ) (p : PlacedTree) → with_number (trees w) t ≡ Some p → (xs : List NodeId) → ArePassed t (1 + node_count p.syntax.children) xs
      → ArePassed (t + 1) 0 xs
  tree_next t p is xs passed = further t (1 + node_count p.syntax.children) (t + 1) 0 xs passed (λ x permitted. (wider x, narrower x permitted))
    where
      wider : (x : NodeId) → IsPassed t (1 + node_count p.syntax.children) x → IsPassed (t + 1) 0 x
      wider x (inl less) = inl (omega (arith, less))
      wider x (inr here) = inl (omega (arith, here.0))

      narrower : (x : NodeId) → IsPermitted w context rule x → IsPassed (t + 1) 0 x → IsPassed t (1 + node_count p.syntax.children) x
      narrower x permitted (inr here) = absurd (omega (arith, here.1))
      narrower x permitted (inl less) =
          elim (cases_lt x.tree t) [
            | inl before ↦ inl before
            | inr more ↦
                let same : x.tree ≡ t = omega (arith, less, more) in
                inr (same, node_within x p (ap (with_number (trees w)) same ∙ is) permitted)
          ]

  trees_next : (left t : ℕ) → t + left ≡ length (trees w) → (xs : List NodeId) → ArePassed t 0 xs → (xs : List NodeId) × ArePermitted w context rule xs
  trees_next zero t all xs passed = (
    xs,
    record {
      once = passed.once;
      are = λ x. (
        λ at. ((passed.are x).0 at).0,
        λ permitted.
            let there = some_and (with_number (trees w) x.tree) (λ p. HasNode p.syntax x.node.0) permitted.open_to_all.node in
            (passed.are x).1 (permitted, inl (omega (arith, all, placed_within (trees w) x.tree there.0 there.1))),
      );
    },
  )
  trees_next (suc left) t all xs passed =
      let p = placed_there (trees w) t (omega arith) in
      let next = nodes_next t p.0.syntax (ap (option_map (λ (p : PlacedTree). p.syntax)) p.1) (1 + node_count p.0.syntax.children) 0 (omega arith) xs passed in
      trees_next left (t + 1) (omega arith) next.0 (tree_next t p.0 p.1 next.0 next.1)

  pub some_permitted : (xs : List NodeId) × ArePermitted w context rule xs
  some_permitted =
      trees_next (length (trees w)) 0 (omega arith) []
      (record { once = pairs_none (λ x y. x ≢ y); are = λ x. (λ at. absurd (none_there x at), λ is. absurd (none_passed x is.1)) })
    where
      none_there : (x : NodeId) → Contains [] x → ⊥
      none_there x at = All-contains (λ _. ⊥) [] x (All-nil (λ _. ⊥)) at

      none_passed : (x : NodeId) → IsPassed 0 0 x → ⊥
      none_passed x (inl less) = omega (arith, less)
      none_passed x (inr here) = omega (arith, here.1)
