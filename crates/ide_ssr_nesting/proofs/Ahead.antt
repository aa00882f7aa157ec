-- The test by which matches are sorted.
use Rattle.std.proofs.Common.{◌≡◌, ℕ, ◌+◌, ◌<◌, ◌==◌, ◌&&◌, ◌||◌, ◌⊎◌, ◌↔◌, inl, inr, Bool, true, false, List, Option, Some, None, refl, sym, ap, ◌∙◌, arith}
use Rattle.std.specs.Prelude.{IsTrue, nat_lt}
use Rattle.std.specs.Cmp.{IsStrictWeakOrder}
use Rattle.std.specs.Option.{IsSomeAnd, option_map, option_map_or}
use Rattle.std.proofs.lemmas.Bool.{cases_order, cases_Bool, cond-true, cond-false, lt-ltb, ltb-true, ltb_from_iff, false≢true}
use Rattle.std.proofs.lemmas.Option.{same_Some}
use Rattle.std.proofs.lemmas.Bool.Decides.{nat_tests}
use Rattle.ssr_base_trees.specs.declared.ids.NodeId.{NodeId}
use Rattle.ssr_base_trees.specs.Workspace.{Workspace, PlacedTree, trees, with_number, tree_of, has_node}
use Rattle.ssr_base_trees.specs.Built.{IsNodeOf, CallsAreEarlier}
use Rattle.ssr_syntax_tree.specs.Syntax.{Syntax, node_count}
use Rattle.ssr_syntax_tree.specs.Places.{HasNode}
use Rattle.ide_ssr_bindings.specs.Found.{FoundMatch}
use Rattle.ide_ssr_nesting.specs.Order.{count_of, place}
use Rattle.ide_ssr_nesting.specs.Kept.{ComesBefore}
use Rattle.ide_ssr_nesting.specs.Private.Sorting.{is_node, first_rank, next_rank, is_ahead}
use Rattle.ide_ssr_nesting.proofs.Laid.{laid}

-- ** The test by which they are sorted.

pub node_test : (trees : List PlacedTree) (x : NodeId) → is_node trees x ≡ true → IsNodeOf trees x
unfolding is_node
node_test trees x is = by (with_number trees x.tree) is
  where
    by : (o : Option PlacedTree) → option_map_or (λ p. has_node p.syntax x.node.0) o false ≡ true → IsSomeAnd o (λ p. HasNode p.syntax x.node.0)
    by None is = absurd (false≢true is)
    by (Some p) is = ltb-true x.node.0 (1 + node_count p.syntax.children) is

-- what the code asks of the tree
pub node_told : (w : Workspace) (x : NodeId) (tree : Syntax) (r : Bool) → Some tree ≡ tree_of w x.tree → IsTrue r ↔ HasNode tree x.node.0 → r ≡ is_node (trees w) x
unfolding is_node
node_told w x tree r is told = by (with_number (trees w) x.tree) is
  where
    by : (o : Option PlacedTree) → Some tree ≡ option_map (λ p. p.syntax) o → r ≡ option_map_or (λ p. has_node p.syntax x.node.0) o false
    by None is = cc
    by (Some p) is =
        ltb_from_iff told
        ∙ ap (λ (s : Syntax). nat_lt x.node.0 (1 + node_count s.children)) (same_Some tree p.syntax is)

pub no_node : (w : Workspace) (x : NodeId) → None ≡ tree_of w x.tree → false ≡ is_node (trees w) x
unfolding is_node
no_node w x none = by (with_number (trees w) x.tree) none
  where
    by : (o : Option PlacedTree) → None ≡ option_map (λ p. p.syntax) o → false ≡ option_map_or (λ p. has_node p.syntax x.node.0) o false
    by None none = refl
    by (Some p) none = cc

pub test_node : (trees : List PlacedTree) (x : NodeId) → IsNodeOf trees x → is_node trees x ≡ true
unfolding is_node
test_node trees x node = by (with_number trees x.tree) node
  where
    by : (o : Option PlacedTree) → IsSomeAnd o (λ p. HasNode p.syntax x.node.0) → option_map_or (λ p. has_node p.syntax x.node.0) o false ≡ true
    by None node = absurd node
    by (Some p) node = lt-ltb x.node.0 (1 + node_count p.syntax.children) node

ahead_once : (a r b q : ℕ) → (nat_lt a b || (a == b && nat_lt r q)) ≡ true → (nat_lt b a || (b == a && nat_lt q r)) ≡ false
ahead_once a r b q h = grind (arith, nat_tests)

ahead_chain : (a r b q c s : ℕ) → (nat_lt a b || (a == b && nat_lt r q)) ≡ false → (nat_lt b c || (b == c && nat_lt q s)) ≡ false
    → (nat_lt a c || (a == c && nat_lt r s)) ≡ false
ahead_chain a r b q c s h g = grind (arith, nat_tests)

ahead_first : (a r b q : ℕ) → a < b → (nat_lt a b || (a == b && nat_lt r q)) ≡ true
ahead_first a r b q h = grind (arith, nat_tests)

ahead_next : (a r b q : ℕ) → a ≡ b → r < q → (nat_lt a b || (a == b && nat_lt r q)) ≡ true
ahead_next a r b q h g = grind (arith, nat_tests)

behind_first : (a r b q : ℕ) → b < a → false ≡ (nat_lt a b || (a == b && nat_lt r q))
behind_first a r b q h = grind (arith, nat_tests)

behind_none : (a r b q : ℕ) → a ≡ b → q ≡ 0 → false ≡ (nat_lt a b || (a == b && nat_lt r q))
behind_none a r b q h z = grind (arith, nat_tests)

pub ahead_order : (trees : List PlacedTree) → IsStrictWeakOrder (is_ahead trees)
unfolding is_ahead
ahead_order trees = record {
  one_way = λ k m h. ahead_once (first_rank trees k) (next_rank trees k) (first_rank trees m) (next_rank trees m) h;
  chain = λ j k m h g. ahead_chain (first_rank trees j) (next_rank trees j) (first_rank trees k) (next_rank trees k) (first_rank trees m) (next_rank trees m) h g;
}

first_of : (trees : List PlacedTree) (m : FoundMatch) → is_node trees m.node ≡ true → first_rank trees m ≡ place trees m.node
unfolding first_rank
first_of trees m is = cond-true (is_node trees m.node) (place trees m.node) (count_of trees) is

next_of : (trees : List PlacedTree) (m : FoundMatch) → is_node trees m.node ≡ true → next_rank trees m ≡ m.rule
unfolding next_rank
next_of trees m is = cond-true (is_node trees m.node) m.rule 0 is

first_lacking : (trees : List PlacedTree) (m : FoundMatch) → is_node trees m.node ≡ false → first_rank trees m ≡ count_of trees
unfolding first_rank
first_lacking trees m is = cond-false (is_node trees m.node) (place trees m.node) (count_of trees) is

next_lacking : (trees : List PlacedTree) (m : FoundMatch) → is_node trees m.node ≡ false → next_rank trees m ≡ 0
unfolding next_rank
next_lacking trees m is = cond-false (is_node trees m.node) m.rule 0 is

module _ (trees : List PlacedTree) (grown : CallsAreEarlier trees) where
  within : (m : FoundMatch) → is_node trees m.node ≡ true → place trees m.node < count_of trees
  within m is =
      let node = node_test trees m.node is in
      let begins = (laid trees grown).begins m.node node in
      let ends = (laid trees grown).ends m.node node in
      omega arith

  -- a match that lacks its node is in front of none
  pub lacking_behind : (k m : FoundMatch) → is_node trees k.node ≡ false → false ≡ is_ahead trees k m
  unfolding is_ahead
  lacking_behind k m lacks = elim (cases_Bool (is_node trees m.node)) [
    | inl has ↦ behind_first (first_rank trees k) (next_rank trees k) (first_rank trees m) (next_rank trees m)
        (omega (arith, first_lacking trees k lacks, first_of trees m has, within m has))
    | inr also ↦ behind_none (first_rank trees k) (next_rank trees k) (first_rank trees m) (next_rank trees m)
        (first_lacking trees k lacks ∙ sym (first_lacking trees m also)) (next_lacking trees m also)
  ]

  pub lacking_last : (k m : FoundMatch) → is_node trees k.node ≡ true → is_node trees m.node ≡ false → true ≡ is_ahead trees k m
  unfolding is_ahead
  lacking_last k m has lacks =
      sym (ahead_first (first_rank trees k) (next_rank trees k) (first_rank trees m) (next_rank trees m)
      (omega (arith, first_of trees k has, first_lacking trees m lacks, within k has)))

  ahead_is : (k m : FoundMatch) → IsNodeOf trees k.node → IsNodeOf trees m.node
      → is_ahead trees k m ≡ (nat_lt (place trees k.node) (place trees m.node) || (place trees k.node == place trees m.node && nat_lt k.rule m.rule))
  unfolding is_ahead
  ahead_is k m k_in m_in =
      let k_is = test_node trees k.node k_in in
      let m_is = test_node trees m.node m_in in
      rw (first_of trees k k_is, next_of trees k k_is, first_of trees m m_is, next_of trees m m_is) refl

  ahead_before : (k m : FoundMatch) → IsNodeOf trees k.node → IsNodeOf trees m.node → is_ahead trees k m ≡ true → ComesBefore trees k m
  ahead_before k m k_in m_in ahead =
      elim (parts (place trees k.node) k.rule (place trees m.node) m.rule (sym (ahead_is k m k_in m_in) ∙ ahead)) [
        | inl less ↦ inl less
        | inr same ↦ inr ((laid trees grown).one k.node m.node k_in m_in same.0, same.1)
      ]
    where
      parts : (a r b q : ℕ) → (nat_lt a b || (a == b && nat_lt r q)) ≡ true → (a < b) ⊎ ((a ≡ b) × (r < q))
      parts a r b q h = elim (cases_order a b) [
        | inl same ↦ inr (same, grind (arith, nat_tests))
        | inr (inl less) ↦ inl less
        | inr (inr more) ↦ absurd (grind (arith, nat_tests))
      ]

  pub before_ahead : (k m : FoundMatch) → IsNodeOf trees k.node → IsNodeOf trees m.node → ComesBefore trees k m → is_ahead trees k m ≡ true
  before_ahead k m k_in m_in before = ahead_is k m k_in m_in ∙ by before
    where
      by : ComesBefore trees k m → (nat_lt (place trees k.node) (place trees m.node) || (place trees k.node == place trees m.node && nat_lt k.rule m.rule)) ≡ true
      by (inl less) = ahead_first (place trees k.node) k.rule (place trees m.node) m.rule less
      by (inr same) = ahead_next (place trees k.node) k.rule (place trees m.node) m.rule (ap (place trees) same.0) same.1

  pub told_ahead : (k m : FoundMatch) (r : Bool) → is_node trees k.node ≡ true → is_node trees m.node ≡ true → (r ≡ true) ↔ ComesBefore trees k m → r ≡ is_ahead trees k m
  told_ahead k m r k_is m_is told =
      let k_in = node_test trees k.node k_is in
      let m_in = node_test trees m.node m_is in
      by r told (is_ahead trees k m) refl
    where
      by : (r : Bool) → (r ≡ true) ↔ ComesBefore trees k m → (b : Bool) → is_ahead trees k m ≡ b → r ≡ is_ahead trees k m
      by true told b is = sym (before_ahead k m (node_test trees k.node k_is) (node_test trees m.node m_is) (told.0 refl))
      by false told true is =
          absurd (false≢true (told.1 (ahead_before k m (node_test trees k.node k_is) (node_test trees m.node m_is) is)))
      by false told false is = sym is
