-- The call that is found is a macro call of its tree, and it has no expansion.
use Rattle.std.proofs.Common.{◌≡◌, ℕ, suc, ◌==◌, ◌&&◌, Bool, true, List, [], ◌∷◌, slice_get, Option, Some, None, refl, sym, ap, ◌∙◌, subst, inl, inr, arith}
use Rattle.std.proofs.lemmas.Bool.{cases_Bool, cond-true, cond-false, and_parts}
use Rattle.std.proofs.lemmas.Option.{option_and_then_some, slice_get_within, same_Some}
use Rattle.std.specs.Prelude.{unwrap_or, is_some, if◌then◌else◌}
use Rattle.std.specs.List.{find}
use Rattle.std.specs.Option.{option_map}
use Rattle.ssr_syntax_kinds.specs.Kinds.{same_kind}
use Rattle.ssr_syntax_kinds.specs.declared.kinds.SyntaxKind.TheVariants as k
use Rattle.ssr_syntax_kinds.specs.declared.range.TextRange.{TextRange}
use Rattle.ssr_syntax_kinds.proofs.Shared.{same_kind-equal}
use Rattle.ssr_syntax_tree.specs.Syntax.{Syntax}
use Rattle.ssr_syntax_tree.specs.Places.{Node, HasNode, nodes_of, node_of, root_of, start_of, end_of}
use Rattle.ssr_syntax_tree.proofs.Shared.{node_of-number, length-nodes_of}
use Rattle.ssr_base_trees.specs.declared.ids.NodeId.{NodeId}
use Rattle.ssr_base_trees.specs.Workspace.{Workspace, PlacedTree, trees, with_number, tree_of, node_id, expansion_of}
use Rattle.ssr_base.specs.Building.{is_call, first_call, if_free, call_at, free_call}
use Rattle.ssr_base_trees.specs.Built.{IsNodeOf, IsMacroCall}
use Rattle.ssr_base_trees.proofs.Shared.{and_some, mapped}

-- what is found stands in the list, and passes
found_in : {A : Type 0} (test : A → Bool) (xs : List A) (x : A) → find test xs ≡ Some x → (i : ℕ) × (slice_get xs i ≡ Some x) × (test x ≡ true)
found_in test [] x is = cc
found_in test (y ∷ ys) x is =
    elim (cases_Bool (test y)) [
      | inl passes ↦
          let same : y ≡ x = same_Some y x (sym (cond-true (test y) (Some y) (find test ys) passes) ∙ is) in
          (0, ap Some same, ap test (sym same) ∙ passes)
      | inr fails ↦
          let later = found_in test ys x (sym (cond-false (test y) (Some y) (find test ys) fails) ∙ is) in
          (suc later.0, later.1, later.2)
    ]

-- the first call is a node under its number
record IsCallOf (tree : Syntax) (node : Node) : Type 0 where
  has : HasNode tree node.number
  macro_call : (node_of tree node.number).kind ≡ k.MACRO_CALL

found_call : (tree : Syntax) (range : TextRange) (node : Node) → first_call tree range ≡ Some node → IsCallOf tree node
unfolding first_call node_of
found_call tree range node is =
    let found = found_in (is_call tree range) (nodes_of tree) node is in
    let i = found.0 in
    let has : HasNode tree i = omega (arith, slice_get_within (nodes_of tree) i node found.1, length-nodes_of tree) in
    let there : node_of tree i ≡ node = ap (λ o. unwrap_or o (root_of tree)) found.1 in
    let number : i ≡ node.number = sym (node_of-number tree i has) ∙ ap (λ (x : Node). x.number) there in
    let front = and_parts (same_kind node.kind k.MACRO_CALL && start_of tree node == range.start) (end_of tree node == range.end) found.2 in
    let kind = and_parts (same_kind node.kind k.MACRO_CALL) (start_of tree node == range.start) front.0 in
    record {
      has = subst (HasNode tree) number has;
      macro_call =
          ap (λ n. (node_of tree n).kind) (sym number)
          ∙ ap (λ (x : Node). x.kind) there
          ∙ same_kind-equal node.kind k.MACRO_CALL kind.0;
    }

-- a call is a node of its tree, and a macro call
pub record IsChosen (w : Workspace) (call : NodeId) : Type 0 where
  pub node : IsNodeOf (trees w) call
  pub macro_call : IsMacroCall (trees w) call

chosen_node : (w : Workspace) (t : ℕ) (p : PlacedTree) (node : Node) → with_number (trees w) t ≡ Some p → IsCallOf p.syntax node → IsChosen w (node_id t node.number)
chosen_node w t p node is call = record {
  node = and_some (with_number (trees w) t) (λ p. HasNode p.syntax node.number) p is call.has;
  macro_call = and_some (with_number (trees w) t) (λ p. (node_of p.syntax node.number).kind ≡ k.MACRO_CALL) p is call.macro_call;
}

chosen_at : (w : Workspace) (t : ℕ) (range : TextRange) (call : NodeId) → call_at w t range ≡ Some call → IsChosen w call
chosen_at w t range call is =
    option_and_then_some (λ tree. option_map (λ node. node_id t node.number) (first_call tree range)) (tree_of w t) call is
    (λ tree at named.
    let place = mapped (λ (p : PlacedTree). p.syntax) (with_number (trees w) t) tree at in
    let found = mapped (λ (node : Node). node_id t node.number) (first_call tree range) call named in
    subst (IsChosen w) found.2
    (chosen_node w t place.0 found.0 place.1 (subst (λ s. IsCallOf s found.0) (sym place.2) (found_call tree range found.0 found.1))))

if_free_from : (w : Workspace) (c call : NodeId) → if_free w c ≡ Some call → (expansion_of w call ≡ None) × (c ≡ call)
if_free_from w c call e = step (expansion_of w c) refl e
  where
    step : (o : Option NodeId) → expansion_of w c ≡ o → (if is_some o then None else Some c) ≡ Some call → (expansion_of w call ≡ None) × (c ≡ call)
    step None is e = let same : c ≡ call = same_Some c call e in (ap (expansion_of w) (sym same) ∙ is, same)
    step (Some root) is e = cc

pub chosen_free : (w : Workspace) (t : ℕ) (range : TextRange) (call : NodeId) → free_call w t range ≡ Some call → IsChosen w call × (expansion_of w call ≡ None)
unfolding free_call
chosen_free w t range call is =
    option_and_then_some (if_free w) (call_at w t range) call is
    (λ c at free.
    let told = if_free_from w c call free in
    (subst (IsChosen w) told.1 (chosen_at w t range c at), told.0))
