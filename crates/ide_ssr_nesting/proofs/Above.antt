-- What stands above nodes, told by places.
use Rattle.std.proofs.Common.{◌≡◌, ℕ, zero, suc, ◌<◌, ◌≤◌, inl, inr, List, Some, ap, ◌∙◌, subst, arith}
use Rattle.std.proofs.lemmas.Bool.{cases_lt, cases_order}
use Rattle.std.proofs.lemmas.Option.{option_and_then_some, same_Some}
use Rattle.std.specs.Option.{option_and_then}
use Rattle.ssr_base_trees.specs.declared.ids.NodeId.{NodeId}
use Rattle.ssr_base_trees.specs.Workspace.{PlacedTree, above_in, above}
use Rattle.ssr_base_trees.specs.Built.{IsNodeOf, CallsAreEarlier}
use Rattle.ssr_base_trees.specs.Laws.{climbed, IsBelow, IsEarlier}
use Rattle.ssr_base_trees.proofs.Shared.{is_up}
use Rattle.ide_ssr_bindings.proofs.Shared.{told_node}
use Rattle.ide_ssr_nesting.specs.Order.{place, end_place}
use Rattle.ide_ssr_nesting.specs.Laws.{BelowIsBetween, OnePlaceEach, OneWayUp}
use Rattle.ide_ssr_nesting.proofs.Laid.{laid}

-- what is known of a node above another one
pub record StandsOver (trees : List PlacedTree) (a b : NodeId) : Type 0 where
  pub node : IsNodeOf trees a
  pub before : place trees a < place trees b
  pub around : end_place trees b ≤ end_place trees a
  pub earlier : IsEarlier a b

earlier_of : (a b c : NodeId) → IsEarlier a b → IsEarlier b c → IsEarlier a c
earlier_of a b c (inl x) (inl y) = inl (omega arith)
earlier_of a b c (inl x) (inr y) = inl (omega arith)
earlier_of a b c (inr x) (inl y) = inl (omega arith)
earlier_of a b c (inr x) (inr y) = inr (omega arith, omega arith)

module _ (trees : List PlacedTree) (grown : CallsAreEarlier trees) where
  one_up : (a b : NodeId) → above trees b ≡ Some a → StandsOver trees a b
  one_up a b is =
      let up = is_up trees b a grown is in
      let node = told_node (above_in b) trees b a is in
      record {
        node = up.node;
        before = (laid trees grown).later b a node is;
        around = (laid trees grown).holds b a node is;
        earlier = up.earlier;
      }

  over_trans : (a b c : NodeId) → StandsOver trees a b → StandsOver trees b c → StandsOver trees a c
  over_trans a b c x y =
      let before = x.before in
      let next = y.before in
      let around = x.around in
      let inner = y.around in
      record { node = x.node; before = omega arith; around = omega arith; earlier = earlier_of a b c x.earlier y.earlier }

  over_climbed : (n : ℕ) (a b : NodeId) → climbed trees (suc n) b ≡ Some a → StandsOver trees a b
  over_climbed zero a b is =
      option_and_then_some {P = StandsOver trees a b} (climbed trees zero) (above trees b) a is
      (λ c up same. subst (λ c. StandsOver trees c b) (same_Some c a same) (one_up c b up))
  over_climbed (suc n) a b is =
      option_and_then_some {P = StandsOver trees a b} (climbed trees (suc n)) (above trees b) a is
      (λ c up rest. over_trans a c b (over_climbed n a c rest) (one_up c b up))

  pub below_over : (a b : NodeId) → IsBelow trees b a → StandsOver trees a b
  below_over a b below = over_climbed below.0 a b below.1

  between_below : (bound : ℕ) (a b : NodeId) → place trees b ≤ bound → IsNodeOf trees a → IsNodeOf trees b → place trees a < place trees b
      → place trees b < end_place trees a → IsBelow trees b a
  between_below zero a b low a_in b_in before within = absurd (omega arith)
  between_below (suc bound) a b low a_in b_in before within =
      let up = (laid trees grown).down a b a_in b_in before within in
      let over = one_up up.0 b up.1 in
      let less = over.before in
      elim (cases_lt (place trees a) (place trees up.0)) [
        | inl further ↦
            let rest = between_below bound a up.0 (omega arith) a_in over.node further (omega arith) in
            (suc rest.0, ap (option_and_then (climbed trees (suc rest.0))) up.1 ∙ rest.1)
        | inr here ↦
            let at = up.2 in
            let same = (laid trees grown).one up.0 a over.node a_in (omega arith) in
            (zero, ap (option_and_then (climbed trees zero)) up.1 ∙ ap Some same)
      ]

  pub below_is_between : BelowIsBetween trees
  below_is_between a b a_in b_in = (
    (λ below. (
        let over = below_over a b below in
        let before = over.before in
        let around = over.around in
        let end = (laid trees grown).begins b b_in in
        (omega arith, omega arith)
        )),
    (λ between. between_below (place trees b) a b (omega arith) a_in b_in between.0 between.1),
  )

  pub one_place_each : OnePlaceEach trees
  one_place_each a b a_in b_in same = (laid trees grown).one a b a_in b_in same

  pub one_way_up : OneWayUp trees
  one_way_up a b c c_in under_a under_b =
      let over_a = below_over a c under_a in
      let over_b = below_over b c under_b in
      let a_in = over_a.node in
      let b_in = over_b.node in
      let between_a = (below_is_between a c a_in c_in).0 under_a in
      let between_b = (below_is_between b c b_in c_in).0 under_b in
      elim (cases_order (place trees a) (place trees b)) [
        | inl same ↦ inl (one_place_each a b a_in b_in same)
        | inr (inl less) ↦ inr (inr ((below_is_between a b a_in b_in).1 (less, omega arith)))
        | inr (inr more) ↦ inr (inl ((below_is_between b a b_in a_in).1 (more, omega arith)))
      ]
