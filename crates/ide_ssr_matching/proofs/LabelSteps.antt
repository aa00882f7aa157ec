-- Nodes of a list, gone over by their labels.
use Rattle.std.proofs.Common.{◌≡◌, ℕ, suc, ◌+◌, ◌-◌, ◌<◌, Bool, true, false, ◌&&◌, ◌||◌, not, cond, List, [], ◌∷◌, ◌++◌, length, take, is_some, Option, Some, None, refl, sym, ◌∙◌, ap, append_assoc, arith}
use Rattle.std.specs.List.{find, list_any}
use Rattle.std.specs.Option.{option_map, option_map_or}
use Rattle.std.proofs.lemmas.List.{take_at}
use Rattle.ssr_syntax_tree.specs.declared.number.NodeNo.{NodeNo}
use Rattle.ssr_syntax_tree.specs.Syntax.{Syntax}
use Rattle.ssr_syntax_tree.specs.Places.{Node, node_of}
use Rattle.ide_ssr_matching.specs.declared.records.Label.{Label}
use Rattle.ide_ssr_matching.specs.Records.{label_of, are_labelled, has_label, have_same_label, are_new, are_different}
use Rattle.ide_ssr_matching.specs.Private.ChildNodes.{nodes_at}
use Rattle.ide_ssr_matching.specs.Private.Records.{label_texts}

-- ** What a label is known by.

-- what is asked of nodes that have to have a label, if there is one
abbrev asked_by : Option (List (List ℕ)) → Node → Bool
asked_by label b = option_map_or (λ label. has_label label b) label false

none_found : (xs : List Node) → find (asked_by None) xs ≡ None
none_found [] = refl
none_found (x ∷ xs) = none_found xs

none_passes : (xs : List Node) → list_any (asked_by None) xs ≡ false
none_passes [] = refl
none_passes (x ∷ xs) = none_passes xs

pub is_labelled : (tree : Syntax) (n : ℕ) (o : Option Label) (b : Bool) → option_map (label_texts tree) o ≡ label_of (node_of tree n) → is_some o ≡ not b → b ≡ false
    → is_some (label_of (node_of tree n)) ≡ true
is_labelled tree n None b is told some = let e : false ≡ true = told ∙ ap not some in cc
is_labelled tree n (Some label) b is told some = ap is_some (sym is)

module _ (tree : Syntax) (n : ℕ) (xs : List Node) (o : Option Label) (is : option_map (label_texts tree) o ≡ label_of (node_of tree n)) where
  pub unlabelled_finds : o ≡ None → None ≡ find (have_same_label (node_of tree n)) xs
  unlabelled_finds none =
      sym (none_found xs) ∙ ap (λ o. find (asked_by o) xs) (ap (option_map (label_texts tree)) (sym none) ∙ is)

  pub unlabelled_passes : o ≡ None → false ≡ list_any (have_same_label (node_of tree n)) xs
  unlabelled_passes none =
      sym (none_passes xs) ∙ ap (λ o. list_any (asked_by o) xs) (ap (option_map (label_texts tree)) (sym none) ∙ is)

-- ** One node more.

module _ (tree : Syntax) (first : NodeNo) (left behind : List NodeNo) (steps : left ≡ first ∷ behind) where
  at_front : nodes_at tree left ≡ node_of tree first.0 ∷ nodes_at tree behind
  at_front = ap (nodes_at tree) steps

  pub find_passed : (test : Node → Bool) (whole : Option Node) → test (node_of tree first.0) ≡ false → find test (nodes_at tree left) ≡ whole
      → find test (nodes_at tree behind) ≡ whole
  find_passed test whole fails so_far =
      ap (λ b. cond b (Some (node_of tree first.0)) (find test (nodes_at tree behind))) (sym fails) ∙ ap (find test) (sym at_front) ∙ so_far

  pub any_passed : (test : Node → Bool) (whole : Bool) → test (node_of tree first.0) ≡ false → list_any test (nodes_at tree left) ≡ whole
      → list_any test (nodes_at tree behind) ≡ whole
  any_passed test whole fails so_far =
      ap (λ b. b || list_any test (nodes_at tree behind)) (sym fails) ∙ ap (list_any test) (sym at_front) ∙ so_far

  pub labelled_passed : (whole : Bool) → is_some (label_of (node_of tree first.0)) ≡ true → are_labelled (nodes_at tree left) ≡ whole
      → are_labelled (nodes_at tree behind) ≡ whole
  labelled_passed whole labelled so_far =
      ap (λ b. b && are_labelled (nodes_at tree behind)) (sym labelled) ∙ ap are_labelled (sym at_front) ∙ so_far

  -- the same of the first ones alone
  module _ (test : Node → Bool) (count place : ℕ) (whole : Bool) (less : place < count) where
    taken_front : take (count - place) (nodes_at tree left) ≡ node_of tree first.0 ∷ take (count - (place + 1)) (nodes_at tree behind)
    taken_front =
        let more : count - place ≡ suc (count - (place + 1)) = omega arith in
        ap (λ n. take n (nodes_at tree left)) more ∙ ap (take (suc (count - (place + 1)))) at_front

    pub taken_passed : test (node_of tree first.0) ≡ false → list_any test (take (count - place) (nodes_at tree left)) ≡ whole
        → list_any test (take (count - (place + 1)) (nodes_at tree behind)) ≡ whole
    taken_passed fails so_far =
        ap (λ b. b || list_any test (take (count - (place + 1)) (nodes_at tree behind))) (sym fails)
        ∙ ap (list_any test) (sym taken_front) ∙ so_far

-- ** Whether labels are different.

-- so far these nodes were seen, none with the label of another one
pub record AreNewSoFar (tree : Syntax) (all : List Node) (count : ℕ) (left : List NodeNo) : Type 0 where
  pub seen : List Node
  pub split : all ≡ seen ++ nodes_at tree left
  pub counted : count ≡ length seen
  pub so_far : are_new seen (nodes_at tree left) ≡ are_different all

module _ (tree : Syntax) (all : List Node) (count : ℕ) (first : NodeNo) (left behind : List NodeNo) (steps : left ≡ first ∷ behind)
    (new : AreNewSoFar tree all count left) where
  new_by : (b : Bool) → b ≡ list_any (have_same_label (node_of tree first.0)) (take count all)
      → (not b && are_new (new.seen ++ node_of tree first.0 ∷ []) (nodes_at tree behind)) ≡ are_different all
  new_by b is =
      ap (λ b. not b && are_new (new.seen ++ node_of tree first.0 ∷ []) (nodes_at tree behind))
      (is
      ∙ ap (λ nodes. list_any (have_same_label (node_of tree first.0)) nodes)
      (ap (take count) new.split ∙ take_at new.seen (nodes_at tree left) count (sym new.counted)))
      ∙ ap (λ left. are_new new.seen (nodes_at tree left)) (sym steps)
      ∙ new.so_far

  pub new_next : (b : Bool) → b ≡ list_any (have_same_label (node_of tree first.0)) (take count all) → b ≡ false → AreNewSoFar tree all (count + 1) behind
  new_next b is fresh = record {
    seen = new.seen ++ node_of tree first.0 ∷ [];
    split =
        new.split ∙ ap (λ left. new.seen ++ nodes_at tree left) steps ∙ sym (append_assoc new.seen (node_of tree first.0 ∷ []) (nodes_at tree behind));
    counted = ap (λ n. n + 1) new.counted ∙ sym (longer new.seen);
    so_far = ap (λ b. not b && are_new (new.seen ++ node_of tree first.0 ∷ []) (nodes_at tree behind)) (sym fresh) ∙ new_by b is;
  }
    where
      longer : (seen : List Node) → length (seen ++ node_of tree first.0 ∷ []) ≡ length seen + 1
      longer [] = refl
      longer (node ∷ seen) = omega (arith, longer seen)
