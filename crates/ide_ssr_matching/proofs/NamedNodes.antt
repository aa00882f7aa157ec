-- Nodes that are arranged by different labels share no token.
use Rattle.std.proofs.Common.{◌≡◌, ℕ, suc, Bool, true, false, ◌&&◌, not, cond, List, [], ◌∷◌, ◌++◌, length, map, slice_get, All, AllPairs, Option, Some, None, refl, sym, ◌∙◌, ap, subst, inl, inr, arith}
use Rattle.std.specs.Prelude.{◌==◌}
use Rattle.std.specs.List.{find, list_any}
use Rattle.std.specs.Option.{option_map}
use Rattle.std.proofs.lemmas.Bool.{not-true, and_parts, both_ways, cases_lt, cases_eq, or_parts}
use Rattle.std.proofs.lemmas.List.Elements.{All-nil, All-cons, All-head, All-tail, All-weaker}
use Rattle.std.proofs.lemmas.List.Kept.{AllPairs-cons}
use Rattle.std.proofs.lemmas.List.Folds.{list_any-append}
use Rattle.std.proofs.lemmas.Option.{none-some, same_Some}
use Rattle.ssr_syntax_tree.specs.Syntax.{Syntax}
use Rattle.ssr_syntax_tree.specs.Places.{Node, node_part}
use Rattle.ssr_syntax_tree.proofs.Lists.{all_at, pairs_at, pairs_head, pairs_none, pairs_tail}
use Rattle.ssr_syntax_tree.proofs.Shared.{IsOf}
use Rattle.ide_ssr_matching.specs.Calls.{child_nodes}
use Rattle.ide_ssr_matching.specs.Records.{all_some, have_same_label, are_new, are_different, arranged, named_nodes}
use Rattle.ide_ssr_matching.proofs.CallNodes.{NodesApart, NodesIn, swapped, child_nodes_in, parts_in}
use Rattle.ide_ssr_matching.proofs.Labels.{third_label}
use Rattle.ide_ssr_matching.proofs.Spread.{IsAmongNode, AreOf}

-- ** Labels that are different.

-- new ones are unlike those that were seen
fresh : (seen nodes : List Node) → are_new seen nodes ≡ true → All (λ node. list_any (have_same_label node) seen ≡ false) nodes
fresh seen [] new = All-nil (λ node. list_any (have_same_label node) seen ≡ false)
fresh seen (node ∷ rest) new =
    let both = and_parts (not (list_any (have_same_label node) seen)) (are_new (seen ++ node ∷ []) rest) new in
    All-cons (λ node. list_any (have_same_label node) seen ≡ false) node rest (not-true (list_any (have_same_label node) seen) both.0)
    (All-weaker (λ other. list_any (have_same_label other) (seen ++ node ∷ []) ≡ false) (λ other. list_any (have_same_label other) seen ≡ false)
    (λ other none. (or_parts (list_any (have_same_label other) seen) (list_any (have_same_label other) (node ∷ [])) (sym (list_any-append (have_same_label other) seen (node ∷ [])) ∙ none)).0)
    rest (fresh (seen ++ node ∷ []) rest both.1))

abbrev AreUnlike : Node → Node → Type 0
AreUnlike a b = have_same_label b a ≡ false

unlike_pairs : (seen nodes : List Node) → are_new seen nodes ≡ true → AllPairs AreUnlike nodes
unlike_pairs seen [] new = pairs_none AreUnlike
unlike_pairs seen (node ∷ rest) new =
    let both = and_parts (not (list_any (have_same_label node) seen)) (are_new (seen ++ node ∷ []) rest) new in
    AllPairs-cons AreUnlike node rest
    (All-weaker (λ other. list_any (have_same_label other) (seen ++ node ∷ []) ≡ false) (AreUnlike node)
    (λ other none.
    (or_parts (have_same_label other node) false
    (or_parts (list_any (have_same_label other) seen) (list_any (have_same_label other) (node ∷ [])) (sym (list_any-append (have_same_label other) seen (node ∷ [])) ∙ none)).1).0)
    rest (fresh (seen ++ node ∷ []) rest both.1))
    (unlike_pairs (seen ++ node ∷ []) rest both.1)

-- ** The first one that passes a test.

record IsFoundAt {A : Type 0} (p : A → Bool) (xs : List A) (x : A) : Type 0 where
  place : ℕ
  at : slice_get xs place ≡ Some x
  passes : p x ≡ true

found_at : {A : Type 0} (p : A → Bool) (xs : List A) (x : A) → find p xs ≡ Some x → IsFoundAt p xs x
found_at p [] x is = absurd (none-some x is)
found_at p (first ∷ rest) x is = by (p first) refl is (found_at p rest x)
  where
    by : (b : Bool) → p first ≡ b → cond b (Some first) (find p rest) ≡ Some x → (find p rest ≡ Some x → IsFoundAt p rest x) → IsFoundAt p (first ∷ rest) x
    by true passes is later =
        let same = same_Some first x is in
        record { place = 0; at = is; passes = ap p (sym same) ∙ passes }
    by false fails is later =
        let found = later is in
        record { place = suc found.place; at = found.at; passes = found.passes }

two_apart : (nodes : List Node) (a b x y : Node) → AllPairs NodesApart nodes → AreUnlike a b
    → find (have_same_label a) nodes ≡ Some x → find (have_same_label b) nodes ≡ Some y → NodesApart x y
two_apart nodes a b x y apart unlike is_x is_y =
    let first = found_at (have_same_label a) nodes x is_x in
    let second = found_at (have_same_label b) nodes y is_y in
    elim (cases_lt first.place second.place) [
      | inl before ↦ pairs_at NodesApart nodes first.place second.place x y apart before first.at second.at
      | inr behind ↦
          elim (cases_eq first.place second.place) [
            | inl same ↦
                let node : x ≡ y = same_Some x y (sym first.at ∙ ap (slice_get nodes) same ∙ second.at) in
                absurd (both_ways (have_same_label b a) unlike (third_label a b y (ap (have_same_label a) (sym node) ∙ first.passes) second.passes))
            | inr other ↦ swapped y x (pairs_at NodesApart nodes second.place first.place y x apart (omega arith) second.at first.at)
          ]
    ]

-- ** All that are arranged.

record Conses {A : Type 0} (o : Option A) (rest : List (Option A)) (all : List A) : Type 0 where
  first : A
  others : List A
  is_first : o ≡ Some first
  are_others : all_some rest ≡ Some others
  same : first ∷ others ≡ all

conses : {A : Type 0} (o : Option A) (rest : List (Option A)) (all : List A) → all_some (o ∷ rest) ≡ Some all → Conses o rest all
conses None rest all is = absurd (none-some all is)
conses {A} (Some x) rest all is = by (all_some rest) refl is
  where
    by : (os : Option (List A)) → all_some rest ≡ os → option_map (λ xs. x ∷ xs) os ≡ Some all → Conses (Some x) rest all
    by None none is = absurd (none-some all is)
    by (Some xs) are is = record { first = x; others = xs; is_first = refl; are_others = are; same = same_Some (x ∷ xs) all is }

abbrev all_found : List Node → List Node → Option (List Node)
all_found ps cs = all_some (map (λ p. find (have_same_label p) cs) ps)

each_found : (cs : List Node) (P : Node → Type 0) → All P cs → (ps found : List Node) → all_found ps cs ≡ Some found → All P found
each_found cs P all [] found is = subst (All P) (same_Some [] found is) (All-nil P)
each_found cs P all (p ∷ ps) found is =
    let it = conses (find (have_same_label p) cs) (map (λ p. find (have_same_label p) cs) ps) found is in
    let at = found_at (have_same_label p) cs it.first it.is_first in
    subst (All P) it.same
    (All-cons P it.first it.others (all_at P cs at.place it.first all at.at) (each_found cs P all ps it.others it.are_others))

module _ (cs : List Node) (apart : AllPairs NodesApart cs) where
  apart_from : (p node : Node) → find (have_same_label p) cs ≡ Some node → (ps found : List Node)
      → All (AreUnlike p) ps → all_found ps cs ≡ Some found → All (NodesApart node) found
  apart_from p node is_node [] found unlike is = subst (All (NodesApart node)) (same_Some [] found is) (All-nil (NodesApart node))
  apart_from p node is_node (other ∷ ps) found unlike is =
      let it = conses (find (have_same_label other) cs) (map (λ p. find (have_same_label p) cs) ps) found is in
      subst (All (NodesApart node)) it.same
      (All-cons (NodesApart node) it.first it.others
      (two_apart cs p other node it.first apart (All-head (AreUnlike p) other ps unlike) is_node it.is_first)
      (apart_from p node is_node ps it.others (All-tail (AreUnlike p) other ps unlike) it.are_others))

  found_apart : (ps found : List Node) → AllPairs AreUnlike ps → all_found ps cs ≡ Some found → AllPairs NodesApart found
  found_apart [] found unlike is = subst (AllPairs NodesApart) (same_Some [] found is) (pairs_none NodesApart)
  found_apart (p ∷ ps) found unlike is =
      let it = conses (find (have_same_label p) cs) (map (λ p. find (have_same_label p) cs) ps) found is in
      subst (AllPairs NodesApart) it.same
      (AllPairs-cons NodesApart it.first it.others
      (apart_from p it.first it.is_first ps it.others (pairs_head AreUnlike p ps unlike) it.are_others)
      (found_apart ps it.others (pairs_tail AreUnlike p ps unlike) it.are_others))

module _ (code : Syntax) (p c : Node) (found : List Node) (is : IsOf code c) where
  arranged_in : (ps : List Node) → arranged ps (child_nodes c) ≡ Some found → NodesIn code c found
  arranged_in ps are = by (are_different ps) refl (are_different (child_nodes c) && length ps == length (child_nodes c)) are
    where
      by : (a : Bool) → are_different ps ≡ a → (b : Bool) → cond (a && b) (all_found ps (child_nodes c)) None ≡ Some found → NodesIn code c found
      by true different true are =
          let all = child_nodes_in code c is in
          record {
            each = each_found (child_nodes c) (IsOf code) all.each ps found are;
            among = each_found (child_nodes c) (λ node. IsAmongNode c (node_part node)) all.among ps found are;
            apart = found_apart (child_nodes c) all.apart ps found (unlike_pairs [] ps different) are;
          }
      by true different false are = absurd (none-some found are)
      by false alike b are = absurd (none-some found are)

  pub named_nodes_are : named_nodes p c ≡ Some found → AreOf code c (map node_part found)
  named_nodes_are are = parts_in code c found (arranged_in (child_nodes p) are)
