-- The test by which nodes are sorted.
use Rattle.std.proofs.Common.{◌≡◌, ℕ, ◌+◌, ◌<◌, ◌≤◌, ◌≢◌, ◌==◌, ◌&&◌, ◌||◌, ◌⊎◌, ◌↔◌, inl, inr, Bool, true, false, List, Option, Some, None, refl, sym, ap, ◌∙◌, arith}
use Rattle.std.specs.Prelude.{IsTrue, nat_lt}
use Rattle.std.specs.Cmp.{IsStrictWeakOrder}
use Rattle.std.specs.Option.{IsSomeAnd, option_map, option_map_or}
use Rattle.std.proofs.lemmas.Bool.{cases_order, cond-true, cond-false, lt-ltb, ltb-true, ltb_from_iff, false≢true}
use Rattle.std.proofs.lemmas.Option.{same_Some}
use Rattle.std.proofs.lemmas.Bool.Decides.{nat_tests}
use Rattle.ssr_base_trees.specs.declared.ids.NodeId.{NodeId}
use Rattle.ssr_base_trees.specs.Workspace.{Workspace, PlacedTree, trees, with_number, tree_of, has_node}
use Rattle.ssr_base_trees.specs.Built.{IsNodeOf}
use Rattle.ssr_syntax_tree.specs.Syntax.{Syntax, node_count}
use Rattle.ssr_syntax_tree.specs.Places.{HasNode}
use Rattle.ide_ssr_nesting.specs.Order.{place, Precedes}
use Rattle.ide_ssr_nesting.specs.Laws.{OnePlaceEach}
use Rattle.ide_ssr_debugging.specs.Debugging.{start, NodeBefore}
use Rattle.ide_ssr_debugging.specs.Private.Order.{is_node, rank, is_ahead}

-- ** Nodes of the workspace.

pub node_test : (trees : List PlacedTree) (x : NodeId) → is_node trees x ≡ true → IsNodeOf trees x
unfolding is_node
node_test trees x is = by (with_number trees x.tree) is
  where
    by : (o : Option PlacedTree) → option_map_or (λ p. has_node p.syntax x.node.0) o false ≡ true → IsSomeAnd o (λ p. HasNode p.syntax x.node.0)
    by None is = absurd (false≢true is)
    by (Some p) is = ltb-true x.node.0 (1 + node_count p.syntax.children) is

pub test_node : (trees : List PlacedTree) (x : NodeId) → IsNodeOf trees x → is_node trees x ≡ true
unfolding is_node
test_node trees x node = by (with_number trees x.tree) node
  where
    by : (o : Option PlacedTree) → IsSomeAnd o (λ p. HasNode p.syntax x.node.0) → option_map_or (λ p. has_node p.syntax x.node.0) o false ≡ true
    by None node = absurd node
    by (Some p) node = lt-ltb x.node.0 (1 + node_count p.syntax.children) node

-- what the code asks of the tree
pub node_told : (w : Workspace) (x : NodeId) (tree : Syntax) (r : Bool) → Some tree ≡ tree_of w x.tree → IsTrue r ↔ HasNode tree x.node.0 → r ≡ is_node (trees w) x
unfolding is_node
node_told w x tree r is told = by (with_number (trees w) x.tree) is
  where
    by : (o : Option PlacedTree) → Some tree ≡ option_map (λ p. p.syntax) o → r ≡ option_map_or (λ p. has_node p.syntax x.node.0) o false
    by None is = cc
    by (Some p) is =
        ltb_from_iff told
        ∙ ap (λ (s : Syntax). nat_lt x.node.0 (1 + node_count s.children)) (same_Some tree p.syntax is)

pub no_node : (w : Workspace) (x : NodeId) → None ≡ tree_of w x.tree → false ≡ is_node (trees w) x
unfolding is_node
no_node w x none = by (with_number (trees w) x.tree) none
  where
    by : (o : Option PlacedTree) → None ≡ option_map (λ p. p.syntax) o → false ≡ option_map_or (λ p. has_node p.syntax x.node.0) o false
    by None none = refl
    by (Some p) none = cc

-- ** The test, on numbers: where nodes begin, and their ranks.

ahead_once : (s p t q : ℕ) → (nat_lt s t || (s == t && nat_lt p q)) ≡ true → (nat_lt t s || (t == s && nat_lt q p)) ≡ false
ahead_once s p t q h = grind (arith, nat_tests)

ahead_chain : (s p t q u r : ℕ) → (nat_lt s t || (s == t && nat_lt p q)) ≡ false → (nat_lt t u || (t == u && nat_lt q r)) ≡ false
    → (nat_lt s u || (s == u && nat_lt p r)) ≡ false
ahead_chain s p t q u r h g = grind (arith, nat_tests)

ahead_apart : (s p t q : ℕ) → s ≢ t → nat_lt s t ≡ (nat_lt s t || (s == t && nat_lt p q))
ahead_apart s p t q other = grind (arith, nat_tests)

ahead_none : (s p t q : ℕ) → s ≡ t → q ≡ 0 → false ≡ (nat_lt s t || (s == t && nat_lt p q))
ahead_none s p t q same none = grind (arith, nat_tests)

ahead_next : (s p t q : ℕ) → s ≡ t → p < q → (nat_lt s t || (s == t && nat_lt p q)) ≡ true
ahead_next s p t q same less = grind (arith, nat_tests)

ahead_last : (s p t q : ℕ) → s ≡ t → q ≤ p → (nat_lt s t || (s == t && nat_lt p q)) ≡ false
ahead_last s p t q same most = grind (arith, nat_tests)

ahead_first : (s p t q : ℕ) → s < t → (nat_lt s t || (s == t && nat_lt p q)) ≡ true
ahead_first s p t q less = grind (arith, nat_tests)

pub ahead_order : (trees : List PlacedTree) → IsStrictWeakOrder (is_ahead trees)
unfolding is_ahead
ahead_order trees = record {
  one_way = λ a b h. ahead_once (start trees a) (rank trees a) (start trees b) (rank trees b) h;
  chain = λ a b c h g. ahead_chain (start trees a) (rank trees a) (start trees b) (rank trees b) (start trees c) (rank trees c) h g;
}

rank_of : (trees : List PlacedTree) (x : NodeId) → is_node trees x ≡ true → rank trees x ≡ 1 + place trees x
unfolding rank
rank_of trees x is = cond-true (is_node trees x) (1 + place trees x) 0 is

rank_lacking : (trees : List PlacedTree) (x : NodeId) → is_node trees x ≡ false → rank trees x ≡ 0
unfolding rank
rank_lacking trees x is = cond-false (is_node trees x) (1 + place trees x) 0 is

module _ (trees : List PlacedTree) (a b : NodeId) where
  pub apart_told : (s t : ℕ) → s ≡ start trees a → t ≡ start trees b → s ≢ t → nat_lt s t ≡ is_ahead trees a b
  unfolding is_ahead
  apart_told s t at_a at_b other =
      ap (λ s. nat_lt s t) at_a ∙ ap (nat_lt (start trees a)) at_b
      ∙ ahead_apart (start trees a) (rank trees a) (start trees b) (rank trees b) (λ same. other (at_a ∙ same ∙ sym at_b))

  pub lacking_behind : start trees a ≡ start trees b → is_node trees b ≡ false → false ≡ is_ahead trees a b
  unfolding is_ahead
  lacking_behind same lacks =
      ahead_none (start trees a) (rank trees a) (start trees b) (rank trees b) same (rank_lacking trees b lacks)

  pub lacking_first : start trees a ≡ start trees b → is_node trees b ≡ true → is_node trees a ≡ false → true ≡ is_ahead trees a b
  unfolding is_ahead
  lacking_first same has lacks =
      sym (ahead_next (start trees a) (rank trees a) (start trees b) (rank trees b) same
      (omega (arith, rank_lacking trees a lacks, rank_of trees b has)))

  pub precedes_told : (r : Bool) → start trees a ≡ start trees b → is_node trees a ≡ true → is_node trees b ≡ true → IsTrue r ↔ Precedes trees a b → r ≡ is_ahead trees a b
  unfolding is_ahead
  precedes_told r same a_is b_is told = by r told
    where
      by : (r : Bool) → IsTrue r ↔ Precedes trees a b → r ≡ (nat_lt (start trees a) (start trees b) || (start trees a == start trees b && nat_lt (rank trees a) (rank trees b)))
      by true told =
          let less = told.0 refl in
          sym (ahead_next (start trees a) (rank trees a) (start trees b) (rank trees b) same (omega (arith, rank_of trees a a_is, rank_of trees b b_is)))
      by false told =
          elim (cases_order (place trees a) (place trees b)) [
            | inl equal ↦ last (omega arith)
            | inr (inl less) ↦ absurd (false≢true (told.1 less))
            | inr (inr more) ↦ last (omega arith)
          ]
        where
          last : place trees b ≤ place trees a → false ≡ (nat_lt (start trees a) (start trees b) || (start trees a == start trees b && nat_lt (rank trees a) (rank trees b)))
          last most =
              sym (ahead_last (start trees a) (rank trees a) (start trees b) (rank trees b) same (omega (arith, rank_of trees a a_is, rank_of trees b b_is)))

-- of two nodes the one comes first that isn't behind the other
pub not_behind : (trees : List PlacedTree) → OnePlaceEach trees → (a b : NodeId) → IsNodeOf trees a → IsNodeOf trees b → a ≢ b → is_ahead trees b a ≡ false → NodeBefore trees a b
unfolding is_ahead
not_behind trees one a b a_in b_in other ahead =
    elim (cases_order (start trees a) (start trees b)) [
      | inr (inl less) ↦ inl less
      | inr (inr more) ↦
          absurd (false≢true (sym ahead ∙ ahead_first (start trees b) (rank trees b) (start trees a) (rank trees a) more))
      | inl same ↦ inr (same, by same)
    ]
  where
    by : start trees a ≡ start trees b → Precedes trees a b
    by same = elim (cases_order (place trees a) (place trees b)) [
      | inl equal ↦ absurd (other (one a b a_in b_in equal))
      | inr (inl less) ↦ less
      | inr (inr more) ↦
          absurd (false≢true (sym ahead ∙ ahead_next (start trees b) (rank trees b) (start trees a) (rank trees a) (sym same)
          (omega (arith, rank_of trees a (test_node trees a a_in), rank_of trees b (test_node trees b b_in)))))
    ]
