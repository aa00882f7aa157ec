-- How the nodes of trees lie, which each tree keeps that is put in.
use Rattle.std.proofs.Common.{◌≡◌, ◌≢◌, ℕ, ◌+◌, ◌<◌, ◌≤◌, ◌⊎◌, inl, inr, List, [], ◌∷◌, length, Option, Some, None, refl, sym, ap, ◌∙◌, subst, arith}
use Rattle.std.proofs.lemmas.Bool.{cases_lt, cases_eq}
use Rattle.std.proofs.lemmas.Option.{same_Some}
use Rattle.std.specs.Prelude.{IfSome}
use Rattle.ssr_syntax_tree.specs.Places.{HasNode, node_of, size_of}
use Rattle.ssr_syntax_tree.proofs.Shared.{below_fits, root_size}
use Rattle.ssr_base_trees.specs.declared.ids.NodeId.{NodeId}
use Rattle.ssr_base_trees.specs.Workspace.{PlacedTree, node_id, above}
use Rattle.ssr_base_trees.specs.Built.{IsNodeOf, CallsAreEarlier}
use Rattle.ssr_base_trees.proofs.Shared.{is_up}
use Rattle.ide_ssr_nesting.specs.Order.{count_in, count_of, place, end_place}
use Rattle.ide_ssr_nesting.proofs.Parents.{has_parent}
use Rattle.ide_ssr_nesting.proofs.Nodes.{first_or_earlier, node_within, above_root, above_inner, above_earlier, same_numbers}
use Rattle.ide_ssr_nesting.proofs.Put.{IsLaid, IsPut, put}

-- ** What moves keeps its order.

pub put_least : (p : PlacedTree) (earlier : List PlacedTree) (put : IsPut p earlier) (x y : ℕ) → x ≤ y → put.move x ≤ put.move y
put_least p earlier put x y low =
    elim (cases_lt (put.move y) (put.move x)) [ inl less ↦ absurd (let back = put.back y x less in omega arith) | inr least ↦ least ]

pub put_one : (p : PlacedTree) (earlier : List PlacedTree) (put : IsPut p earlier) (x y : ℕ) → put.move x ≡ put.move y → x ≡ y
put_one p earlier put x y same =
    elim (cases_lt x y) [
      | inl less ↦ absurd (let more = put.up x y less in omega arith)
      | inr not_less ↦ elim (cases_lt y x) [
        | inl greater ↦ absurd (let more = put.up y x greater in omega arith)
        | inr equal ↦ omega arith
      ]
    ]

module _ (p : PlacedTree) (earlier : List PlacedTree) (laid : IsLaid earlier) (grown : CallsAreEarlier (p ∷ earlier)) (h : IsPut p earlier) where
  -- a node that was there lies before the new ones or behind them
  pub apart : (x : NodeId) → IsNodeOf earlier x → (h.move (place earlier x) < h.first) ⊎ (h.first + count_in p ≤ h.move (place earlier x))
  apart x node = by p.call refl
    where
      by : (o : Option NodeId) → p.call ≡ o → (h.move (place earlier x) < h.first) ⊎ (h.first + count_in p ≤ h.move (place earlier x))
      by None none =
          let begins = laid.begins x node in
          let ends = laid.ends x node in
          let less = h.up (place earlier x) (end_place earlier x) begins in
          let low = h.uncalled none (end_place earlier x) ends in
          inl (omega arith)
      by (Some c) is = elim (cases_lt (place earlier c) (place earlier x)) [
        | inl far ↦ inr (h.past c is (place earlier x) far)
        | inr near ↦ inl (
            let least = put_least p earlier h (place earlier x) (place earlier c) near in
            let first = h.called c is in
            omega arith
            )
      ]

  -- what holds a new node, and was there, holds the call
  around : (a : NodeId) (m : ℕ) → IsNodeOf earlier a → m < count_in p → h.move (place earlier a) < h.first + m → h.first + m < h.move (end_place earlier a)
      → (c : NodeId) × (p.call ≡ Some c) × (h.move (place earlier a) ≤ h.move (place earlier c))
  around a m node within before after = by p.call refl
    where
      by : (o : Option NodeId) → p.call ≡ o → (c : NodeId) × (p.call ≡ Some c) × (h.move (place earlier a) ≤ h.move (place earlier c))
      by None none = absurd (let low = h.uncalled none (end_place earlier a) (laid.ends a node) in omega arith)
      by (Some c) is = (
        c,
        is,
        elim (cases_lt (place earlier c) (place earlier a)) [
          | inl far ↦ absurd (let gone = h.past c is (place earlier a) far in omega arith)
          | inr near ↦ put_least p earlier h (place earlier a) (place earlier c) near
        ],
      )

  begins_more : (x : NodeId) → IsNodeOf (p ∷ earlier) x → place (p ∷ earlier) x < end_place (p ∷ earlier) x
  begins_more x node = elim (first_or_earlier p earlier x node) [
    | inl new ↦ omega (arith, h.new_place x new.0, h.new_end x new.0)
    | inr old ↦ omega (arith, h.old_place x old.0, h.old_end x old.0, h.up (place earlier x) (end_place earlier x) (laid.begins x old.1))
  ]

  ends_more : (x : NodeId) → IsNodeOf (p ∷ earlier) x → end_place (p ∷ earlier) x ≤ count_of (p ∷ earlier)
  ends_more x node = elim (first_or_earlier p earlier x node) [
    | inl new ↦ omega (arith, h.new_end x new.0, below_fits p.syntax x.node.0 new.1, h.fits)
    | inr old ↦ omega (arith, h.old_end x old.0, h.bound (end_place earlier x) (laid.ends x old.1))
  ]

  one_more : (a b : NodeId) → IsNodeOf (p ∷ earlier) a → IsNodeOf (p ∷ earlier) b → place (p ∷ earlier) a ≡ place (p ∷ earlier) b → a ≡ b
  one_more a b a_in b_in same =
      elim (first_or_earlier p earlier a a_in) [
        | inl new_a ↦ elim (first_or_earlier p earlier b b_in) [
          | inl new_b ↦ same_numbers a b (new_a.0 ∙ sym new_b.0) (omega (arith, h.new_place a new_a.0, h.new_place b new_b.0))
          | inr old_b ↦ absurd (mixed a b new_a old_b same)
        ]
        | inr old_a ↦ elim (first_or_earlier p earlier b b_in) [
          | inl new_b ↦ absurd (mixed b a new_b old_a (sym same))
          | inr old_b ↦
              laid.one a b old_a.1 old_b.1
              (put_one p earlier h (place earlier a) (place earlier b) (sym (h.old_place a old_a.0) ∙ same ∙ h.old_place b old_b.0))
        ]
      ]
    where
      mixed : (a b : NodeId) → (a.tree ≡ length earlier) × HasNode p.syntax a.node.0 → (b.tree ≢ length earlier) × IsNodeOf earlier b
          → place (p ∷ earlier) a ≡ place (p ∷ earlier) b → ⊥
      mixed a b new old same =
          let at_a = h.new_place a new.0 in
          let at_b = h.old_place b old.0 in
          let has = new.1 in
          elim (apart b old.1) [ inl before ↦ omega arith | inr behind ↦ omega arith ]

  -- what stands above a node of the new tree: its parent, or the call
  above_new : (x up : NodeId) → x.tree ≡ length earlier → HasNode p.syntax x.node.0 → above (p ∷ earlier) x ≡ Some up
      → ((x.node.0 ≡ 0) × (p.call ≡ Some up)) ⊎ ((0 < x.node.0) × (node_id x.tree (node_of p.syntax x.node.0).parent ≡ up))
  above_new x up here has is = elim (cases_eq x.node.0 0) [
    | inl root ↦ inl (root, sym (above_root p earlier x here root) ∙ is)
    | inr inner ↦ inr (
      omega arith,
      same_Some (node_id x.tree (node_of p.syntax x.node.0).parent) up (sym (above_inner p earlier x here has inner) ∙ is),
    )
  ]

  -- what stands above a node that was there was there
  above_old : (x up : NodeId) → x.tree ≢ length earlier → above (p ∷ earlier) x ≡ Some up → (above earlier x ≡ Some up) × (up.tree ≢ length earlier) × IsNodeOf earlier up
  above_old x up other is =
      let before = sym (above_earlier p earlier x other) ∙ is in
      let node = (is_up earlier x up grown.1 before).node in
      (before, (λ e. omega (arith, node_within earlier up node)), node)

  call_node : (c : NodeId) → p.call ≡ Some c → (c.tree ≢ length earlier) × IsNodeOf earlier c
  call_node c is =
      let node = called p.call grown.0 is in
      ((λ e. omega (arith, node_within earlier c node)), node)
    where
      called : (o : Option NodeId) → IfSome o (IsNodeOf earlier) → o ≡ Some c → IsNodeOf earlier c
      called None known e = cc
      called (Some d) known e = subst (IsNodeOf earlier) (same_Some d c e) known

  upward : (x up : NodeId) → IsNodeOf (p ∷ earlier) x → above (p ∷ earlier) x ≡ Some up
      → (place (p ∷ earlier) up < place (p ∷ earlier) x) × (end_place (p ∷ earlier) x ≤ end_place (p ∷ earlier) up)
  upward x up node is =
      elim (first_or_earlier p earlier x node) [
        | inl new ↦
            let at = h.new_place x new.0 in
            let end = h.new_end x new.0 in
            elim (above_new x up new.0 new.1 is) [
              | inl called ↦
                  let c = call_node up called.1 in
                  let begins = laid.begins up c.1 in
                  let first = h.called up called.1 in
                  let far = h.past up called.1 (end_place earlier up) begins in
                  let size = ap (λ (i : ℕ). size_of (node_of p.syntax i)) called.0 in (
                    omega (arith, h.old_place up c.0),
                    omega (arith, h.old_end up c.0, root_size p.syntax),
                  )
              | inr inner ↦
                  let parent = has_parent p.syntax x.node.0 new.1 inner.0 in
                  let before = parent.before in
                  let holds = parent.holds in
                  subst (λ up. (place (p ∷ earlier) up < place (p ∷ earlier) x) × (end_place (p ∷ earlier) x ≤ end_place (p ∷ earlier) up)) inner.1 (
                    omega (arith, h.new_place (node_id x.tree (node_of p.syntax x.node.0).parent) new.0),
                    omega (arith, h.new_end (node_id x.tree (node_of p.syntax x.node.0).parent) new.0),
                  )
            ]
        | inr old ↦
            let before = above_old x up old.0 is in (
              omega (arith, h.old_place x old.0, h.old_place up before.1, h.up (place earlier up) (place earlier x) (laid.later x up old.1 before.0)),
              omega (
                arith,
                h.old_end x old.0,
                h.old_end up before.1,
                put_least p earlier h (end_place earlier x) (end_place earlier up) (laid.holds x up old.1 before.0),
              ),
            )
      ]

  abbrev Nearest : NodeId → NodeId → Type 0
  Nearest a b = (up : NodeId) × (above (p ∷ earlier) b ≡ Some up) × (place (p ∷ earlier) a ≤ place (p ∷ earlier) up)

  nearest : (a b : NodeId) → IsNodeOf (p ∷ earlier) a → IsNodeOf (p ∷ earlier) b → place (p ∷ earlier) a < place (p ∷ earlier) b
      → place (p ∷ earlier) b < end_place (p ∷ earlier) a → Nearest a b
  nearest a b a_in b_in before within =
      elim (first_or_earlier p earlier b b_in) [
        | inl new_b ↦ elim (first_or_earlier p earlier a a_in) [ inl new_a ↦ both_new new_a new_b | inr old_a ↦ only_new old_a new_b ]
        | inr old_b ↦ elim (first_or_earlier p earlier a a_in) [ inl new_a ↦ absurd (only_old new_a old_b) | inr old_a ↦ both_old old_a old_b ]
      ]
    where
      both_new : (a.tree ≡ length earlier) × HasNode p.syntax a.node.0 → (b.tree ≡ length earlier) × HasNode p.syntax b.node.0 → Nearest a b
      both_new new_a new_b =
          let at_a = h.new_place a new_a.0 in
          let end_a = h.new_end a new_a.0 in
          let at_b = h.new_place b new_b.0 in
          let behind : 0 < b.node.0 = omega arith in
          let low = (has_parent p.syntax b.node.0 new_b.1 behind).nearest a.node.0 (omega arith) (omega arith) in (
            node_id b.tree (node_of p.syntax b.node.0).parent,
            above_inner p earlier b new_b.0 new_b.1 (λ e. omega arith),
            omega (arith, h.new_place (node_id b.tree (node_of p.syntax b.node.0).parent) new_b.0),
          )

      only_new : (a.tree ≢ length earlier) × IsNodeOf earlier a → (b.tree ≡ length earlier) × HasNode p.syntax b.node.0 → Nearest a b
      only_new old_a new_b =
          let at_a = h.old_place a old_a.0 in
          let end_a = h.old_end a old_a.0 in
          let at_b = h.new_place b new_b.0 in
          let call = around a b.node.0 old_a.1 new_b.1 (omega arith) (omega arith) in
          let c = call_node call.0 call.1 in
          let first = h.called call.0 call.1 in
          let low = call.2 in
          elim (cases_eq b.node.0 0) [
            | inl root ↦ (call.0, above_root p earlier b new_b.0 root ∙ call.1, omega (arith, h.old_place call.0 c.0))
            | inr inner ↦ (
              node_id b.tree (node_of p.syntax b.node.0).parent,
              above_inner p earlier b new_b.0 new_b.1 inner,
              omega (arith, h.new_place (node_id b.tree (node_of p.syntax b.node.0).parent) new_b.0),
            )
          ]

      only_old : (a.tree ≡ length earlier) × HasNode p.syntax a.node.0 → (b.tree ≢ length earlier) × IsNodeOf earlier b → ⊥
      only_old new_a old_b =
          let at_a = h.new_place a new_a.0 in
          let end_a = h.new_end a new_a.0 in
          let at_b = h.old_place b old_b.0 in
          let fits = below_fits p.syntax a.node.0 new_a.1 in
          elim (apart b old_b.1) [ inl less ↦ omega arith | inr far ↦ omega arith ]

      both_old : (a.tree ≢ length earlier) × IsNodeOf earlier a → (b.tree ≢ length earlier) × IsNodeOf earlier b → Nearest a b
      both_old old_a old_b =
          let at_a = h.old_place a old_a.0 in
          let end_a = h.old_end a old_a.0 in
          let at_b = h.old_place b old_b.0 in
          let up =
          laid.down a b old_a.1 old_b.1 (h.back (place earlier a) (place earlier b) (omega arith))
          (h.back (place earlier b) (end_place earlier a) (omega arith)) in
          let is = above_earlier p earlier b old_b.0 ∙ up.1 in
          let there = above_old b up.0 old_b.0 is in
          (up.0, is, omega (arith, h.old_place up.0 there.1, put_least p earlier h (place earlier a) (place earlier up.0) up.2))

  laid_more : IsLaid (p ∷ earlier)
  laid_more = record {
    begins = begins_more;
    ends = ends_more;
    one = one_more;
    later = λ x up node is. (upward x up node is).0;
    holds = λ x up node is. (upward x up node is).1;
    down = nearest;
  }

pub laid : (trees : List PlacedTree) → CallsAreEarlier trees → IsLaid trees
laid [] grown = record {
  begins = λ x node. absurd node;
  ends = λ x node. absurd node;
  one = λ a b node. absurd node;
  later = λ x up node. absurd node;
  holds = λ x up node. absurd node;
  down = λ a b node. absurd node;
}
laid (p ∷ earlier) grown =
    let before = laid earlier grown.1 in
    laid_more p earlier before grown (put p earlier before grown.0)
