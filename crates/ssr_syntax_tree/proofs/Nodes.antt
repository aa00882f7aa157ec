-- The nodes of a tree one by one, and whether one of them passes a test.
use Rattle.std.proofs.Common.{◌≡◌, ℕ, ◌+◌, ◌≤◌, ◌∷◌, drop, get_or, ap, ◌∙◌, sym, arith, Bool, true, false, ◌||◌}
use Rattle.std.specs.Prelude.{unwrap_or}
use Rattle.std.proofs.lemmas.List.{drop_more, drop_all}
use Rattle.std.proofs.lemmas.Option.{slice_get-get_or}
use Rattle.std.specs.List.{list_any}
use Rattle.ssr_syntax_tree.specs.Places.{Node, nodes_of, node_of, root_of, HasNode}
use Rattle.ssr_syntax_tree.specs.Syntax.{Syntax, node_count}
use Rattle.ssr_syntax_tree.proofs.RowLaws.{length-nodes_of}

pub node_is : (s : Syntax) (n : ℕ) → HasNode s n → node_of s n ≡ get_or (nodes_of s) n (root_of s)
unfolding node_of
node_is s n has = ap (λ o. unwrap_or o (root_of s)) (slice_get-get_or (nodes_of s) n (root_of s) (omega (arith, has, length-nodes_of s)))

pub node_left : (s : Syntax) (n : ℕ) → HasNode s n → drop n (nodes_of s) ≡ node_of s n ∷ drop (n + 1) (nodes_of s)
node_left s n has =
    drop_more (nodes_of s) n (root_of s) (omega (arith, has, length-nodes_of s)) ∙ ap (λ x. x ∷ drop (n + 1) (nodes_of s)) (sym (node_is s n has))

module _ (passes : Node → Bool) (s : Syntax) where
  pub node_found : (n : ℕ) → HasNode s n → passes (node_of s n) ≡ true → list_any passes (drop n (nodes_of s)) ≡ list_any passes (nodes_of s)
      → list_any passes (nodes_of s) ≡ true
  node_found n has is so_far =
      sym so_far ∙ ap (list_any passes) (node_left s n has) ∙ ap (λ b. b || list_any passes (drop (n + 1) (nodes_of s))) is

  pub node_passed : (n : ℕ) → HasNode s n → passes (node_of s n) ≡ false → list_any passes (drop n (nodes_of s)) ≡ list_any passes (nodes_of s)
      → list_any passes (drop (n + 1) (nodes_of s)) ≡ list_any passes (nodes_of s)
  node_passed n has is so_far =
      ap (λ b. b || list_any passes (drop (n + 1) (nodes_of s))) (sym is) ∙ ap (list_any passes) (sym (node_left s n has)) ∙ so_far

  pub none_found : (n : ℕ) → 1 + node_count s.children ≤ n → list_any passes (drop n (nodes_of s)) ≡ list_any passes (nodes_of s)
      → list_any passes (nodes_of s) ≡ false
  none_found n all so_far = sym so_far ∙ ap (list_any passes) (drop_all n (nodes_of s) (omega (arith, all, length-nodes_of s)))
