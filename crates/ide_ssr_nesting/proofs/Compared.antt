-- How two nodes lie to each other: in one tree by their numbers, in two trees by the call of the later one.
use Rattle.std.proofs.Common.{◌≡◌, ◌≢◌, ℕ, ◌+◌, ◌-◌, ◌<◌, ◌≤◌, ◌==◌, ◌↔◌, inl, inr, Bool, true, false, not, List, [], ◌∷◌, length, Option, Some, None, refl, sym, ap, ◌∙◌, subst, arith}
use Rattle.std.proofs.lemmas.Bool.{cases_lt, cases_order, iff_false, not_from_false, false_from_ne_true, not-true, ltb-true, lt-ltb, leb-true, le-leb, eq-eqb, and_from, false≢true}
use Rattle.std.proofs.lemmas.Option.{same_Some}
use Rattle.std.specs.Prelude.{IsTrue, nat_lt, nat_le}
use Rattle.std.specs.Option.{IsSomeAnd, option_map}
use Rattle.ssr_syntax_tree.specs.Syntax.{Syntax, node_count}
use Rattle.ssr_syntax_tree.specs.Places.{HasNode, node_of, size_of}
use Rattle.ssr_base_trees.specs.declared.ids.NodeId.{NodeId}
use Rattle.ssr_base_trees.specs.Workspace.{PlacedTree, with_number, node_id, same_id, above}
use Rattle.ssr_base_trees.specs.Built.{IsNodeOf, CallsAreEarlier}
use Rattle.ssr_base_trees.specs.Laws.{IsBelow}
use Rattle.ssr_base_trees.proofs.Shared.{is_up, placed_first, placed_earlier, same_nodes}
use Rattle.ide_ssr_bindings.specs.Found.{IsAtOrBelow}
use Rattle.ide_ssr_nesting.specs.Order.{place, end_place, Precedes}
use Rattle.ide_ssr_nesting.proofs.Nodes.{first_or_earlier, node_within, above_root, above_earlier, same_numbers}
use Rattle.ide_ssr_nesting.proofs.Put.{put}
use Rattle.ide_ssr_nesting.proofs.Laid.{laid, put_least, apart}
use Rattle.ide_ssr_nesting.proofs.Above.{below_over, below_is_between, one_place_each}

-- ** In one tree.

pub record LieInOneTree (trees : List PlacedTree) (syntax : Syntax) (a b : NodeId) : Type 0 where
  pub before : a.node.0 < b.node.0 → place trees a < place trees b
  pub was_before : place trees a < place trees b → a.node.0 < b.node.0
  pub within : b.node.0 < a.node.0 + size_of (node_of syntax a.node.0) → place trees b < end_place trees a
  pub was_within : place trees b < end_place trees a → b.node.0 < a.node.0 + size_of (node_of syntax a.node.0)

pub in_one_tree : (trees : List PlacedTree) (syntax : Syntax) (a b : NodeId) → CallsAreEarlier trees → option_map (λ p. p.syntax) (with_number trees a.tree) ≡ Some syntax
    → a.tree ≡ b.tree → IsNodeOf trees a → IsNodeOf trees b → LieInOneTree trees syntax a b
in_one_tree [] syntax a b grown is same a_in b_in = absurd a_in
in_one_tree (p ∷ earlier) syntax a b grown is same a_in b_in =
    let h = put p earlier (laid earlier grown.1) grown.0 in
    elim (first_or_earlier p earlier a a_in) [
      | inl new ↦
          let new_b : b.tree ≡ length earlier = sym same ∙ new.0 in
          let tree : p.syntax ≡ syntax =
          same_Some p.syntax syntax (ap (option_map (λ (p : PlacedTree). p.syntax)) (sym (placed_first p earlier a.tree new.0)) ∙ is) in
          let size = ap (λ (s : Syntax). size_of (node_of s a.node.0)) tree in
          let at_a = h.new_place a new.0 in
          let end_a = h.new_end a new.0 in
          let at_b = h.new_place b new_b in
          record {
            before = λ less. omega arith;
            was_before = λ less. omega arith;
            within = λ less. omega arith;
            was_within = λ less. omega arith;
          }
      | inr old ↦
          let other_b : b.tree ≢ length earlier = λ e. old.0 (same ∙ e) in
          let old_b : IsNodeOf earlier b = elim (first_or_earlier p earlier b b_in) [ inl new ↦ absurd (other_b new.0) | inr there ↦ there.1 ] in
          let rest =
          in_one_tree earlier syntax a b grown.1
          (ap (option_map (λ (p : PlacedTree). p.syntax)) (sym (placed_earlier p earlier a.tree old.0)) ∙ is) same old.1 old_b in
          let at_a = h.old_place a old.0 in
          let end_a = h.old_end a old.0 in
          let at_b = h.old_place b other_b in
          record {
            before = λ less. (let moves = h.up (place earlier a) (place earlier b) (rest.before less) in omega arith);
            was_before = λ less. rest.was_before (h.back (place earlier a) (place earlier b) (omega arith));
            within = λ less. (let moves = h.up (place earlier b) (end_place earlier a) (rest.within less) in omega arith);
            was_within = λ less. rest.was_within (h.back (place earlier b) (end_place earlier a) (omega arith));
          }
    ]

-- ** In two trees.

-- an earlier node and one of a file come one behind the other
pub behind_file : (trees : List PlacedTree) (a b : NodeId) → CallsAreEarlier trees → IsNodeOf trees a → IsNodeOf trees b → a.tree < b.tree
    → above trees (node_id b.tree 0) ≡ None → end_place trees a ≤ place trees b
behind_file [] a b grown a_in b_in less none = absurd a_in
behind_file (p ∷ earlier) a b grown a_in b_in less none =
    let before = laid earlier grown.1 in
    let h = put p earlier before grown.0 in
    elim (first_or_earlier p earlier a a_in) [
      | inl new_a ↦ absurd (let within = node_within (p ∷ earlier) b b_in in omega arith)
      | inr old_a ↦
          let end_a = h.old_end a old_a.0 in
          elim (first_or_earlier p earlier b b_in) [
            | inl new_b ↦
                let uncalled : p.call ≡ None = sym (above_root p earlier (node_id b.tree 0) new_b.0 (omega arith)) ∙ none in
                let low = h.uncalled uncalled (end_place earlier a) (before.ends a old_a.1) in
                let at_b = h.new_place b new_b.0 in
                omega arith
            | inr old_b ↦
                let rest = behind_file earlier a b grown.1 old_a.1 old_b.1 less (sym (above_earlier p earlier (node_id b.tree 0) old_b.0) ∙ none) in
                let at_b = h.old_place b old_b.0 in
                let least = put_least p earlier h (end_place earlier a) (place earlier b) rest in
                omega arith
          ]
    ]

-- an earlier node lies to one of an expansion as it lies to the call, which itself comes before
pub record LieByCall (trees : List PlacedTree) (a b call : NodeId) : Type 0 where
  pub before : place trees a ≤ place trees call → place trees a < place trees b
  pub was_before : place trees a < place trees b → place trees a ≤ place trees call
  pub within : place trees call < end_place trees a → place trees b < end_place trees a
  pub was_within : place trees b < end_place trees a → place trees call < end_place trees a

pub by_call : (trees : List PlacedTree) (a b call : NodeId) → CallsAreEarlier trees → IsNodeOf trees a → IsNodeOf trees b → IsNodeOf trees call → a.tree < b.tree → call.tree < b.tree
    → above trees (node_id b.tree 0) ≡ Some call → LieByCall trees a b call
by_call [] a b call grown a_in b_in call_in less call_less is = absurd a_in
by_call (p ∷ earlier) a b call grown a_in b_in call_in less call_less is =
    let lie = laid earlier grown.1 in
    let h = put p earlier lie grown.0 in
    let top = node_within (p ∷ earlier) b b_in in
    elim (first_or_earlier p earlier a a_in) [
      | inl new_a ↦ absurd (omega arith)
      | inr old_a ↦ elim (first_or_earlier p earlier call call_in) [
        | inl new_c ↦ absurd (omega arith)
        | inr old_c ↦
            let at_a = h.old_place a old_a.0 in
            let end_a = h.old_end a old_a.0 in
            let at_c = h.old_place call old_c.0 in
            elim (first_or_earlier p earlier b b_in) [
              | inl new_b ↦
                  let called : p.call ≡ Some call = sym (above_root p earlier (node_id b.tree 0) new_b.0 (omega arith)) ∙ is in
                  let first = h.called call called in
                  let at_b = h.new_place b new_b.0 in
                  let has = new_b.1 in
                  record {
                    before = λ low. omega arith;
                    was_before = λ low. elim (apart p earlier lie grown h a old_a.1) [ inl near ↦ omega arith | inr far ↦ absurd (omega arith) ];
                    within = λ low. (
                        let far = h.past call called (end_place earlier a) (h.back (place earlier call) (end_place earlier a) (omega arith)) in omega arith
                        );
                    was_within = λ low. omega arith;
                  }
              | inr old_b ↦
                  let rest =
                  by_call earlier a b call grown.1 old_a.1 old_b.1 old_c.1 less call_less (sym (above_earlier p earlier (node_id b.tree 0) old_b.0) ∙ is) in
                  let at_b = h.old_place b old_b.0 in
                  record {
                    before = λ low. (
                        let there = rest.before (elim (cases_lt (place earlier call) (place earlier a)) [
                          | inl more ↦ absurd (let moves = h.up (place earlier call) (place earlier a) more in omega arith)
                          | inr least ↦ least
                        ]) in
                        let moves = h.up (place earlier a) (place earlier b) there in omega arith
                        );
                    was_before = λ low. (
                        let there = rest.was_before (h.back (place earlier a) (place earlier b) (omega arith)) in
                        let least = put_least p earlier h (place earlier a) (place earlier call) there in omega arith
                        );
                    within = λ low. (
                        let there = rest.within (h.back (place earlier call) (end_place earlier a) (omega arith)) in
                        let moves = h.up (place earlier b) (end_place earlier a) there in omega arith
                        );
                    was_within = λ low. (
                        let there = rest.was_within (h.back (place earlier b) (end_place earlier a) (omega arith)) in
                        let moves = h.up (place earlier call) (end_place earlier a) there in omega arith
                        );
                  }
            ]
      ]
    ]

-- ** What the code tells.

pub other_tree : (s t : ℕ) → (s ≡ t → ⊥) → t ≤ s → t < s
other_tree s t other low = omega arith

pub told_not : {P : Type 0} → (P → ⊥) → IsTrue false ↔ P
told_not none = ((λ no. absurd (false≢true no)), (λ p. absurd (none p)))

-- a call is an earlier node
pub call_known : (trees : List PlacedTree) → CallsAreEarlier trees → (t : ℕ) (call : NodeId) → Some call ≡ above trees (node_id t 0) → IsNodeOf trees call × (call.tree < t)
call_known trees grown t call is =
    let up = is_up trees (node_id t 0) call grown (sym is) in
    (up.node, elim up.earlier [ inl less ↦ less | inr same ↦ absurd (let low = same.1 in omega arith) ])

module _ (trees : List PlacedTree) (grown : CallsAreEarlier trees) (a b : NodeId) (a_in : IsNodeOf trees a) (b_in : IsNodeOf trees b) where
  syntax_of : (x : NodeId) → IsNodeOf trees x → (syntax : Syntax) × (option_map (λ (p : PlacedTree). p.syntax) (with_number trees x.tree) ≡ Some syntax)
  syntax_of x node = by (with_number trees x.tree) refl node
    where
      by : (o : Option PlacedTree) → with_number trees x.tree ≡ o → IsSomeAnd o (λ p. HasNode p.syntax x.node.0)
          → (syntax : Syntax) × (option_map (λ (p : PlacedTree). p.syntax) (with_number trees x.tree) ≡ Some syntax)
      by None is known = absurd known
      by (Some p) is known = (p.syntax, ap (option_map (λ (p : PlacedTree). p.syntax)) is)

  pub precedes_in_tree : a.tree ≡ b.tree → IsTrue (nat_lt a.node.0 b.node.0) ↔ Precedes trees a b
  precedes_in_tree same =
      let tree = syntax_of a a_in in
      let lie = in_one_tree trees tree.0 a b grown tree.1 same a_in b_in in (
        (λ less. lie.before (ltb-true a.node.0 b.node.0 less)),
        (λ before. lt-ltb a.node.0 b.node.0 (lie.was_before before)),
      )

  pub precedes_file : a.tree < b.tree → None ≡ above trees (node_id b.tree 0) → IsTrue true ↔ Precedes trees a b
  precedes_file less none =
      let end = behind_file trees a b grown a_in b_in less (sym none) in
      let begins = (laid trees grown).begins a a_in in
      ((λ _. omega arith), (λ _. refl))

  pub precedes_not_file : b.tree < a.tree → None ≡ above trees (node_id a.tree 0) → IsTrue false ↔ Precedes trees a b
  precedes_not_file less none =
      let end = behind_file trees b a grown b_in a_in less (sym none) in
      let begins = (laid trees grown).begins b b_in in
      ((λ no. absurd (false≢true no)), (λ before. absurd (omega arith)))

  pub precedes_call : (call : NodeId) (r : Bool) → a.tree < b.tree → Some call ≡ above trees (node_id b.tree 0)
      → IsTrue r ↔ Precedes trees call a → IsTrue (not r) ↔ Precedes trees a b
  precedes_call call r less is told =
      let known = call_known trees grown b.tree call is in
      let lie = by_call trees a b call grown a_in b_in known.0 less known.1 (sym is) in (
        (λ no. lie.before (elim (cases_lt (place trees call) (place trees a)) [
          | inl before ↦ absurd (iff_false told (not-true r no) before)
          | inr least ↦ least
        ])),
        (λ before. not_from_false r (false_from_ne_true r (λ yes. let later = told.0 yes in let least = lie.was_before before in omega arith))),
      )

  pub precedes_from_call : (call : NodeId) (r : Bool) → b.tree < a.tree → Some call ≡ above trees (node_id a.tree 0)
      → IsTrue r ↔ Precedes trees call b → IsTrue r ↔ Precedes trees a b
  precedes_from_call call r less is told =
      let known = call_known trees grown a.tree call is in
      let lie = by_call trees b a call grown b_in a_in known.0 less known.1 (sym is) in (
        (λ yes. elim (cases_order (place trees a) (place trees b)) [
          | inl same ↦ absurd (let e = ap (λ (x : NodeId). x.tree) (one_place_each trees grown a b a_in b_in same) in omega arith)
          | inr (inl before) ↦ before
          | inr (inr behind) ↦ absurd (let later = told.0 yes in let least = lie.was_before behind in omega arith)
        ]),
        (λ before. told.1 (elim (cases_lt (place trees call) (place trees b)) [
          | inl later ↦ later
          | inr least ↦ absurd (let behind = lie.before least in omega arith)
        ])),
      )

  -- ** What stands at or above.

  pub holds_in_tree : (syntax : Syntax) → Some syntax ≡ option_map (λ (p : PlacedTree). p.syntax) (with_number trees a.tree) → a.tree ≡ b.tree
      → a.node.0 ≤ b.node.0 → b.node.0 < a.node.0 + size_of (node_of syntax a.node.0) → IsAtOrBelow trees b a
  holds_in_tree syntax is same low high =
      let lie = in_one_tree trees syntax a b grown (sym is) same a_in b_in in
      elim (cases_lt a.node.0 b.node.0) [
        | inl less ↦ inr ((below_is_between trees grown a b a_in b_in).1 (lie.before less, lie.within high))
        | inr least ↦ inl (same_numbers b a (sym same) (omega arith))
      ]

  pub held_in_tree : (syntax : Syntax) → Some syntax ≡ option_map (λ (p : PlacedTree). p.syntax) (with_number trees a.tree) → a.tree ≡ b.tree
      → IsAtOrBelow trees b a → (a.node.0 ≤ b.node.0) × (b.node.0 < a.node.0 + size_of (node_of syntax a.node.0))
  held_in_tree syntax is same (inl e) = let number = ap (λ (x : NodeId). x.node.0) e in (omega arith, omega arith)
  held_in_tree syntax is same (inr below) =
      let lie = in_one_tree trees syntax a b grown (sym is) same a_in b_in in
      let between = (below_is_between trees grown a b a_in b_in).0 below in
      let less = lie.was_before between.0 in
      (omega arith, lie.was_within between.1)

  pub holds_here : (syntax : Syntax) (below : ℕ) → Some syntax ≡ option_map (λ (p : PlacedTree). p.syntax) (with_number trees a.tree) → a.tree ≡ b.tree
      → below ≡ node_count (node_of syntax a.node.0).children → a.node.0 ≤ b.node.0 → IsTrue (nat_le (b.node.0 - a.node.0) below) ↔ IsAtOrBelow trees b a
  holds_here syntax below is same count low = (
    (λ test. let less = leb-true (b.node.0 - a.node.0) below test in holds_in_tree syntax is same low (omega arith)),
    (λ held. let parts = held_in_tree syntax is same held in let high = parts.1 in le-leb (b.node.0 - a.node.0) below (omega arith)),
  )

  pub holds_before : (syntax : Syntax) → Some syntax ≡ option_map (λ (p : PlacedTree). p.syntax) (with_number trees a.tree) → a.tree ≡ b.tree
      → b.node.0 < a.node.0 → IsTrue (nat_le a.node.0 b.node.0) ↔ IsAtOrBelow trees b a
  holds_before syntax is same less = (
    (λ test. absurd (let low = leb-true a.node.0 b.node.0 test in omega arith)),
    (λ held. absurd (let low = (held_in_tree syntax is same held).0 in omega arith)),
  )

  pub not_in_earlier : b.tree < a.tree → IsAtOrBelow trees b a → ⊥
  not_in_earlier less (inl e) = let tree = ap (λ (x : NodeId). x.tree) e in omega arith
  not_in_earlier less (inr below) =
      elim ((below_over trees grown a b below).earlier) [ inl x ↦ omega arith | inr y ↦ (let tree = y.0 in omega arith) ]

  pub not_in_file : a.tree < b.tree → None ≡ above trees (node_id b.tree 0) → IsAtOrBelow trees b a → ⊥
  not_in_file less none (inl e) = let tree = ap (λ (x : NodeId). x.tree) e in omega arith
  not_in_file less none (inr below) =
      let end = behind_file trees a b grown a_in b_in less (sym none) in
      let between = (below_is_between trees grown a b a_in b_in).0 below in
      let inside = between.1 in
      omega arith

  pub holds_call : (call : NodeId) (r : Bool) → a.tree < b.tree → Some call ≡ above trees (node_id b.tree 0)
      → IsTrue r ↔ IsAtOrBelow trees call a → IsTrue r ↔ IsAtOrBelow trees b a
  holds_call call r less is told =
      let known = call_known trees grown b.tree call is in
      let lie = by_call trees a b call grown a_in b_in known.0 less known.1 (sym is) in
      let between = below_is_between trees grown a b a_in b_in in
      let about = below_is_between trees grown a call a_in known.0 in (
        (λ yes. inr (between.1 (elim (told.0 yes) [
          | inl e ↦ (
              let at = ap (place trees) e in
              let begins = (laid trees grown).begins a a_in in
              (lie.before (omega arith), lie.within (omega arith))
              )
          | inr below ↦ (
              let parts = about.0 below in
              let low = parts.0 in
              (lie.before (omega arith), lie.within parts.1)
              )
        ]))),
        (λ down. told.1 (elim down [
          | inl e ↦ absurd (let tree = ap (λ (x : NodeId). x.tree) e in omega arith)
          | inr below ↦ (
              let parts = between.0 below in
              let low = lie.was_before parts.0 in
              let high = lie.was_within parts.1 in
              elim (cases_lt (place trees a) (place trees call)) [
                | inl further ↦ inr (about.1 (further, high))
                | inr here ↦ inl (one_place_each trees grown call a known.0 a_in (omega arith))
              ]
              )
        ])),
      )

-- a node is not below itself
pub not_below_itself : (trees : List PlacedTree) (x : NodeId) → CallsAreEarlier trees → IsBelow trees x x → ⊥
not_below_itself trees x grown below = let before = (below_over trees grown x x below).before in omega arith

-- ** Two nodes, as they are compared.

pub other_read : (a b : NodeId) → false ≡ same_id a b → a ≡ b → ⊥
other_read a b other same =
    false≢true (other ∙ and_from (a.tree == b.tree) (a.node.0 == b.node.0) (eq-eqb a.tree b.tree (ap (λ (x : NodeId). x.tree) same))
    (eq-eqb a.node.0 b.node.0 (ap (λ (x : NodeId). x.node.0) same)))

pub above_itself : (trees : List PlacedTree) (a b : NodeId) → CallsAreEarlier trees → true ≡ same_id a b → IsTrue false ↔ IsBelow trees b a
above_itself trees a b grown is =
    told_not (λ below. not_below_itself trees a grown (subst (λ x. IsBelow trees x a) (sym (same_nodes a b (sym is))) below))

pub above_other : (trees : List PlacedTree) (a b : NodeId) (r : Bool) → false ≡ same_id a b → IsTrue r ↔ IsAtOrBelow trees b a → IsTrue r ↔ IsBelow trees b a
above_other trees a b r other told = (
  (λ yes. elim (told.0 yes) [ inl same ↦ absurd (other_read a b other (sym same)) | inr below ↦ below ]),
  (λ below. told.1 (inr below)),
)
