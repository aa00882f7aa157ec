-- The nearest block around a place, node by node.
use Rattle.std.proofs.Common.{◌≡◌, ◌∙◌, ℕ, zero, suc, ◌+◌, ◌≤◌, Bool, true, false, drop, refl, sym, ap, subst, inl, inr, arith}
use Rattle.std.specs.Prelude.{◌&&◌, not, nat_le, Option, Some, None, IfSome, IsTrue, if◌then◌else◌}
use Rattle.std.specs.Option.{option_map}
use Rattle.std.proofs.Math.Bool.{and-false}
use Rattle.std.proofs.lemmas.Bool.{cases_lt}
use Rattle.std.proofs.lemmas.Bool.Decides.{nat_tests}
use Rattle.std.proofs.lemmas.List.{drop_all}
use Rattle.ssr_syntax_kinds.specs.declared.kinds.SyntaxKind.TheVariants as k
use Rattle.ssr_syntax_kinds.specs.Kinds.{same_kind}
use Rattle.ssr_syntax_tree.specs.Syntax.{Syntax, node_count}
use Rattle.ssr_syntax_tree.specs.Places.{HasNode, IsAbove, Node, end_of, node_of, nodes_of, size_of, start_of}
use Rattle.ssr_syntax_tree.specs.declared.number.NodeNo.{NodeNo}
use Rattle.ssr_syntax_tree.proofs.Shared.{end_of-below, length-nodes_of, node_left, node_of-number, start_of-below}
use Rattle.ssr_base_trees.specs.Origins.{Span}
use Rattle.ssr_standing.specs.Around.{has}
use Rattle.ssr_standing.specs.Near.{is_around, last_around, nearest_block, span_in}

-- ** Node by node.

-- what lies in a span that doesn't have a place doesn't have it either
lacks_inside : (start end from to a b : ℕ) → (nat_le a start && nat_le end b) ≡ false → a ≤ from → to ≤ b → (nat_le from start && nat_le end to) ≡ false
lacks_inside start end from to a b lacks h g = grind (arith, nat_tests)

module _ (tree : Syntax) (place : Span) where
  -- a node has the place
  abbrev pub has_it : Node → Bool
  has_it node = has place.start place.end (span_in tree node)

  -- what is found in the nodes from one on, where this was found in front of them
  abbrev pub found_from : Option Node → ℕ → Option Node
  found_from found n = last_around tree place found (drop n (nodes_of tree))

  -- a node that doesn't have the place is no block around it
  not_around : (node : Node) → has_it node ≡ false → is_around tree place node ≡ false
  not_around node lacks =
      ap (λ (b : Bool). same_kind node.kind k.BLOCK_EXPR && (b && not (has (start_of tree node) (end_of tree node) place))) lacks
      ∙ and-false (same_kind node.kind k.BLOCK_EXPR)

  -- the next node is looked at
  one_more : (found : Option Node) (n : ℕ) → HasNode tree n
      → found_from (if is_around tree place (node_of tree n) then Some (node_of tree n) else found) (n + 1) ≡ found_from found n
  one_more found n there = sym (ap (last_around tree place found) (node_left tree n there))

  -- it isn't around
  one_passed : (found : Option Node) (n : ℕ) → HasNode tree n → has_it (node_of tree n) ≡ false → found_from found (n + 1) ≡ found_from found n
  one_passed found n there lacks =
      ap (λ (b : Bool). found_from (if b then Some (node_of tree n) else found) (n + 1)) (sym (not_around (node_of tree n) lacks))
      ∙ one_more found n there

  -- no node below a node that doesn't have the place has it
  below_lacks : (n m : ℕ) → HasNode tree n → IsAbove (node_of tree n) m → has_it (node_of tree n) ≡ false → has_it (node_of tree m) ≡ false
  below_lacks n m there above lacks =
      lacks_inside place.start place.end (start_of tree (node_of tree m)) (end_of tree (node_of tree m)) (start_of tree (node_of tree n))
      (end_of tree (node_of tree n)) lacks (start_of-below tree n m there above) (end_of-below tree n m there above)

  -- so many nodes from it on are passed
  some_passed : (found : Option Node) (n j : ℕ) → HasNode tree n → has_it (node_of tree n) ≡ false → j ≤ size_of (node_of tree n)
      → n + j ≤ 1 + node_count tree.children → found_from found (n + j) ≡ found_from found n
  some_passed found n zero there lacks within fits = let none : n + 0 ≡ n = omega arith in ap (found_from found) none
  some_passed found n (suc j) there lacks within fits =
      let here : HasNode tree (n + j) = omega arith in
      let number : (node_of tree n).number ≡ n = node_of-number tree n there in
      let lacks_too : has_it (node_of tree (n + j)) ≡ false =
      elim (cases_lt 0 j) [
        | inl some ↦ below_lacks n (n + j) there (omega arith, omega arith) lacks
        | inr none ↦ let same : n ≡ n + j = omega arith in subst (λ (m : ℕ). has_it (node_of tree m) ≡ false) same lacks
      ] in
      let next : n + suc j ≡ (n + j) + 1 = omega arith in
      ap (found_from found) next ∙ one_passed found (n + j) here lacks_too ∙ some_passed found n j there lacks (omega arith) (omega arith)

  -- all of it is passed
  all_passed : (found : Option Node) (n past : ℕ) → HasNode tree n → has_it (node_of tree n) ≡ false → past ≡ n + size_of (node_of tree n)
      → past ≤ 1 + node_count tree.children → found_from found past ≡ found_from found n
  all_passed found n past there lacks is fits =
      ap (found_from found) is ∙ some_passed found n (size_of (node_of tree n)) there lacks (omega arith) (omega arith)

-- ** The search for it.

-- a node by its number
abbrev pub known : Syntax → Option NodeNo → Option Node
known tree found = option_map (λ node. node_of tree node.0) found

-- of the nodes before the next one this is the last that is a block around the place, if one is
pub record IsLast (tree : Syntax) (place : Span) (found : Option NodeNo) (next : ℕ) : Type 0 where
  pub so_far : found_from tree place (known tree found) next ≡ nearest_block tree place
  pub has : IfSome found (λ node. HasNode tree node.0)
  pub around : IfSome found (λ node. IsTrue (is_around tree place (node_of tree node.0)))

module _ (tree : Syntax) (place : Span) where
  pub none_yet : IsLast tree place None 0
  unfolding nearest_block
  none_yet = record { so_far = refl; has = tt; around = tt }

  -- the next node is looked at
  pub next_looked_at : (found : Option NodeNo) (node : NodeNo) → HasNode tree node.0 → IsLast tree place found node.0
      → IsLast tree place (if is_around tree place (node_of tree node.0) then Some node else found) (node.0 + 1)
  next_looked_at found node there last = by (is_around tree place (node_of tree node.0)) refl
    where
      left : (b : Bool) → is_around tree place (node_of tree node.0) ≡ b
          → found_from tree place (if b then Some (node_of tree node.0) else known tree found) (node.0 + 1) ≡ nearest_block tree place
      left b is =
          ap (λ (b : Bool). found_from tree place (if b then Some (node_of tree node.0) else known tree found) (node.0 + 1)) (sym is)
          ∙ one_more tree place (known tree found) node.0 there ∙ last.so_far

      by : (b : Bool) → is_around tree place (node_of tree node.0) ≡ b → IsLast tree place (if b then Some node else found) (node.0 + 1)
      by true is = record { so_far = left true is; has = there; around = is }
      by false is = record { so_far = left false is; has = last.has; around = last.around }

  -- where the node that was looked at doesn't have the place, all below it are passed
  pub past_below : (found : Option NodeNo) (n past : ℕ) → HasNode tree n → has_it tree place (node_of tree n) ≡ false → past ≡ n + size_of (node_of tree n)
      → past ≤ 1 + node_count tree.children → IsLast tree place found (n + 1) → IsLast tree place found past
  past_below found n past there lacks is fits last = record {
    so_far =
        all_passed tree place (known tree found) n past there lacks is fits ∙ sym (one_passed tree place (known tree found) n there lacks) ∙ last.so_far;
    has = last.has;
    around = last.around;
  }

  -- behind the last node what was found is the nearest block
  pub none_left : (found : Option NodeNo) (n : ℕ) → 1 + node_count tree.children ≤ n → IsLast tree place found n → known tree found ≡ nearest_block tree place
  none_left found n all last =
      sym (ap (last_around tree place (known tree found)) (drop_all n (nodes_of tree) (omega (arith, length-nodes_of tree)))) ∙ last.so_far
