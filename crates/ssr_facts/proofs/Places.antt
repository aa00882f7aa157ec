-- Nodes and places of a workspace, tree by tree.
use Rattle.std.proofs.Common.{◌≡◌, ℕ, ◌+◌, ◌-◌, ◌≤◌, ◌==◌, ◌&&◌, ltb, List, [], ◌∷◌, ◌++◌, length, take, drop, Bool, cond, true, false, Option, Some, None, refl, sym, ap, ◌∙◌, inl, inr, arith, eq-eqb, eqb-true, ne_eqb}
use Rattle.std.proofs.lemmas.Bool.{cases_eq}
use Rattle.std.proofs.lemmas.Option.{same_Some}
use Rattle.std.specs.Prelude.{if◌then◌else◌}
use Rattle.std.specs.BTreeMap.{is_at}
use Rattle.std.specs.Cmp.{unsigned_ties, both_tied}
use Rattle.std.specs.List.{find}
use Rattle.std.specs.Option.{option_map, option_and_then, option_or}
use Rattle.ssr_syntax_kinds.specs.Kinds.{same_kind}
use Rattle.ssr_syntax_kinds.specs.declared.kinds.SyntaxKind.{SyntaxKind}
use Rattle.ssr_syntax_tree.specs.Syntax.{Syntax, node_count}
use Rattle.ssr_syntax_tree.specs.Places.{Node, HasNode, node_of, nodes_of}
use Rattle.ssr_syntax_tree.proofs.Lists.{take_between}
use Rattle.ssr_syntax_tree.proofs.Shared.{node_left, node_of-number}
use Rattle.ssr_base_trees.specs.declared.ids.NodeId.{NodeId}
use Rattle.ssr_base_trees.specs.Workspace.{Workspace, PlacedTree, trees, with_number, tree_of, node_id, has_node}
use Rattle.ssr_base_trees.proofs.Shared.{length-trees}
use Rattle.ssr_facts_rows.specs.declared.places.PlaceRow.{PlaceRow}
use Rattle.ssr_facts_rows.specs.contracts.places.PlaceRowOrd.TheImpl as place_order
use Rattle.ssr_facts.specs.Nodes.{same_place, place_in, place_of, stands_at, node_at}
use Rattle.ssr_facts.specs.Private.Nodes.{place_at, found_among, told_up_to}
use Rattle.ssr_facts.proofs.ByTree.{tree_more, tree_none, tree_all}
use Rattle.ssr_facts.proofs.Lists.{find_push, option_map-or, option_or_none, option_or_assoc}

pub place_ties : (a b : PlaceRow) → same_place a b ≡ is_at ((place_order.ghosts).cmp a) b
place_ties a b = both_tied _ _ _ _ (unsigned_ties a.tree b.tree) (both_tied _ _ _ _ (unsigned_ties a.start b.start) (unsigned_ties a.end b.end))

-- ** Trees.

-- from the number of trees on there is none
placed_past : (ts : List PlacedTree) (t : ℕ) → length ts ≤ t → with_number ts t ≡ None
placed_past [] t past = refl
placed_past (p ∷ earlier) t past =
    ap (λ b. cond b (Some p) (with_number earlier t)) (ne_eqb t (length earlier) (λ e. omega arith)) ∙ placed_past earlier t (omega arith)

module _ (w : Workspace) where
  none_planted : (t : ℕ) → length w.files + length w.expansions ≤ t → with_number (trees w) t ≡ None
  none_planted t past = placed_past (trees w) t (omega (arith, length-trees w))

  pub no_node_past : (kind : SyntaxKind) (place : PlaceRow) → length w.files + length w.expansions ≤ place.tree → node_at w kind place ≡ None
  no_node_past kind place past =
      ap (λ o. option_and_then (λ tree. option_map (λ node. node_id place.tree node.number) (find (stands_at kind place tree) (nodes_of tree))) (option_map (λ (p : PlacedTree). p.syntax) o)) (none_planted place.tree past)

  pub no_place_past : (x : NodeId) → length w.files + length w.expansions ≤ x.tree → place_of w x ≡ None
  no_place_past x past =
      ap (option_and_then (λ (p : PlacedTree). if has_node p.syntax x.node.0 then Some (place_at x.tree p.syntax x.node.0) else None)) (none_planted x.tree past)

-- the place of a node of a tree
pub place_known : (w : Workspace) (t : ℕ) (tree : Syntax) → tree_of w t ≡ Some tree → (x : NodeId) → x.tree ≡ t
    → place_of w x ≡ (if has_node tree x.node.0 then Some (place_at t tree x.node.0) else None)
place_known w t tree is x same = by (with_number (trees w) x.tree) (ap (tree_of w) same ∙ is)
  where
    by : (o : Option PlacedTree) → option_map (λ (p : PlacedTree). p.syntax) o ≡ Some tree
        → option_and_then (λ (p : PlacedTree). if has_node p.syntax x.node.0 then Some (place_at x.tree p.syntax x.node.0) else None) o
        ≡ (if has_node tree x.node.0 then Some (place_at t tree x.node.0) else None)
    by None e = cc
    by (Some p) e =
        (λ i. if has_node (same_Some p.syntax tree e i) x.node.0 then Some (place_at (same i) (same_Some p.syntax tree e i) x.node.0) else None)

pub place_unknown : (w : Workspace) (t : ℕ) → tree_of w t ≡ None → (x : NodeId) → x.tree ≡ t → place_of w x ≡ None
place_unknown w t is x same = by (with_number (trees w) x.tree) (ap (tree_of w) same ∙ is)
  where
    by : (o : Option PlacedTree) → option_map (λ (p : PlacedTree). p.syntax) o ≡ None
        → option_and_then (λ (p : PlacedTree). if has_node p.syntax x.node.0 then Some (place_at x.tree p.syntax x.node.0) else None) o ≡ None
    by None e = refl
    by (Some p) e = cc

-- ** The nodes of one tree.

-- one node more
pub node_pushed : (tree : Syntax) (n : ℕ) → HasNode tree n → take (n + 1) (nodes_of tree) ≡ take n (nodes_of tree) ++ node_of tree n ∷ []
node_pushed tree n has =
    let one : n + 1 - n ≡ 1 = omega arith in
    take_between (nodes_of tree) n (n + 1) (omega arith)
    ∙ ap (λ k. take n (nodes_of tree) ++ take k (drop n (nodes_of tree))) one
    ∙ ap (λ xs. take n (nodes_of tree) ++ take 1 xs) (node_left tree n has)

module _ (t : ℕ) (tree : Syntax) (kind : SyntaxKind) (place : PlaceRow) (n : ℕ) (has : HasNode tree n) where
  -- of one node more
  more_among : found_among t tree kind place (take (n + 1) (nodes_of tree))
      ≡ option_or (found_among t tree kind place (take n (nodes_of tree)))
      (cond (place.tree == t) (cond (stands_at kind place tree (node_of tree n)) (Some (node_id t n)) None) None)
  more_among =
      ap (found_among t tree kind place) (node_pushed tree n has)
      ∙ ap (λ o. cond (place.tree == t) (option_map (λ node. node_id t node.number) o) None) (find_push (stands_at kind place tree) (take n (nodes_of tree)) (node_of tree n))
      ∙ by (place.tree == t)
    where
      told : (b : Bool) → option_map (λ (node : Node). node_id t node.number) (cond b (Some (node_of tree n)) None) ≡ cond b (Some (node_id t n)) None
      told true = ap (λ m. Some (node_id t m)) (node_of-number tree n has)
      told false = refl

      by : (b : Bool) → cond b (option_map (λ (node : Node). node_id t node.number) (option_or (find (stands_at kind place tree) (take n (nodes_of tree))) (cond (stands_at kind place tree (node_of tree n)) (Some (node_of tree n)) None))) None
          ≡ option_or (cond b (option_map (λ (node : Node). node_id t node.number) (find (stands_at kind place tree) (take n (nodes_of tree)))) None) (cond b (cond (stands_at kind place tree (node_of tree n)) (Some (node_id t n)) None) None)
      by true =
          option_map-or (λ node. node_id t node.number) (find (stands_at kind place tree) (take n (nodes_of tree))) (cond (stands_at kind place tree (node_of tree n)) (Some (node_of tree n)) None)
          ∙ ap (option_or (option_map (λ node. node_id t node.number) (find (stands_at kind place tree) (take n (nodes_of tree))))) (told (stands_at kind place tree (node_of tree n)))
      by false = refl

  -- a node of another kind
  pub other_kind : same_kind (node_of tree n).kind kind ≡ false → found_among t tree kind place (take (n + 1) (nodes_of tree)) ≡ found_among t tree kind place (take n (nodes_of tree))
  other_kind other =
      more_among
      ∙ ap (λ b. option_or (found_among t tree kind place (take n (nodes_of tree))) (cond (place.tree == t) (cond (b && same_place place (place_in place.tree tree (node_of tree n))) (Some (node_id t n)) None) None)) other
      ∙ by (place.tree == t)
    where
      by : (b : Bool) → option_or (found_among t tree kind place (take n (nodes_of tree))) (cond b None None) ≡ found_among t tree kind place (take n (nodes_of tree))
      by true = option_or_none (found_among t tree kind place (take n (nodes_of tree)))
      by false = option_or_none (found_among t tree kind place (take n (nodes_of tree)))

  -- a node of the kind
  pub same_kind_more : same_kind (node_of tree n).kind kind ≡ true
      → found_among t tree kind place (take (n + 1) (nodes_of tree))
      ≡ option_or (found_among t tree kind place (take n (nodes_of tree))) (cond (is_at ((place_order.ghosts).cmp (place_at t tree n)) place) (Some (node_id t n)) None)
  same_kind_more same =
      more_among
      ∙ ap (λ b. option_or (found_among t tree kind place (take n (nodes_of tree))) (cond (place.tree == t) (cond (b && same_place place (place_in place.tree tree (node_of tree n))) (Some (node_id t n)) None) None)) same
      ∙ ap (option_or (found_among t tree kind place (take n (nodes_of tree)))) (by (place.tree == t) refl)
      ∙ ap (λ b. option_or (found_among t tree kind place (take n (nodes_of tree))) (cond b (Some (node_id t n)) None)) (swapped ∙ place_ties (place_at t tree n) place)
    where
      by : (b : Bool) → (place.tree == t) ≡ b
          → cond b (cond (same_place place (place_in place.tree tree (node_of tree n))) (Some (node_id t n)) None) None ≡ cond (b && same_place place (place_at t tree n)) (Some (node_id t n)) None
      by true e = ap (λ (m : ℕ). cond (same_place place (place_in m tree (node_of tree n))) (Some (node_id t n)) None) (eqb-true place.tree t e)
      by false e = refl

      flip : (a b : ℕ) → (a == b) ≡ (b == a)
      flip a b = elim (cases_eq a b) [
        | inl same ↦ eq-eqb a b same ∙ sym (eq-eqb b a (sym same))
        | inr other ↦ ne_eqb a b other ∙ sym (ne_eqb b a (λ e. other (sym e)))
      ]

      twice : (b c : Bool) → (b && (b && c)) ≡ (b && c)
      twice true c = refl
      twice false c = refl

      swapped : ((place.tree == t) && same_place place (place_at t tree n)) ≡ same_place (place_at t tree n) place
      swapped =
          twice (place.tree == t) ((place.start == (place_at t tree n).start) && (place.end == (place_at t tree n).end))
          ∙ (λ i. flip place.tree t i && (flip place.start (place_at t tree n).start i && flip place.end (place_at t tree n).end i))

-- ** Steps over the nodes of one tree.

module _ (t : ℕ) (tree : Syntax) (kind : SyntaxKind) (place : PlaceRow) (n : ℕ) (has : HasNode tree n) (old now new : Option NodeId)
    (before : now ≡ option_or old (found_among t tree kind place (take n (nodes_of tree)))) where
  -- a node of the kind is added, unless there is one of its place
  pub node_added : (key : PlaceRow) → key ≡ place_at t tree n → same_kind (node_of tree n).kind kind ≡ true
      → new ≡ option_or now (cond (is_at ((place_order.ghosts).cmp key) place) (Some (node_id t n)) None)
      → new ≡ option_or old (found_among t tree kind place (take (n + 1) (nodes_of tree)))
  node_added key is same adds =
      adds
      ∙ (λ i. option_or (before i) (cond (is_at ((place_order.ghosts).cmp (is i)) place) (Some (node_id t n)) None))
      ∙ option_or_assoc old (found_among t tree kind place (take n (nodes_of tree))) (cond (is_at ((place_order.ghosts).cmp (place_at t tree n)) place) (Some (node_id t n)) None)
      ∙ ap (option_or old) (sym (same_kind_more t tree kind place n has same))

  -- a node of another kind isn't
  pub node_left_out : same_kind (node_of tree n).kind kind ≡ false → new ≡ now → new ≡ option_or old (found_among t tree kind place (take (n + 1) (nodes_of tree)))
  node_left_out other stays = stays ∙ before ∙ ap (option_or old) (sym (other_kind t tree kind place n has other))

-- ** What is told of nodes by their places, tree by tree.

module _ (w : Workspace) (t : ℕ) {A : Type 0} (tell : PlaceRow → Option A) (x : NodeId) (old new : Option A)
    (before : old ≡ cond (ltb x.tree t) (option_and_then tell (place_of w x)) None) where
  -- a tree more
  pub nodes_told : (tree : Syntax) → tree_of w t ≡ Some tree
      → new ≡ option_or old (told_up_to t (1 + node_count tree.children) (λ n. tell (place_at t tree n)) x)
      → new ≡ cond (ltb x.tree (t + 1)) (option_and_then tell (place_of w x)) None
  nodes_told tree is adds =
      tree_more x.tree t (option_and_then tell (place_of w x)) old new (cond (has_node tree x.node.0) (tell (place_at t tree x.node.0)) None) before
      (adds ∙ ap (option_or old) (apart (x.tree == t) (has_node tree x.node.0)))
      (λ same. sym (ap (option_and_then tell) (place_known w t tree is x same) ∙ told (has_node tree x.node.0)))
    where
      apart : (a b : Bool) → cond (a && b) (tell (place_at t tree x.node.0)) None ≡ cond a (cond b (tell (place_at t tree x.node.0)) None) None
      apart true b = refl
      apart false b = refl

      told : (b : Bool) → option_and_then tell (cond b (Some (place_at t tree x.node.0)) None) ≡ cond b (tell (place_at t tree x.node.0)) None
      told true = refl
      told false = refl

  -- a number without a tree
  pub nodes_untold : tree_of w t ≡ None → new ≡ old → new ≡ cond (ltb x.tree (t + 1)) (option_and_then tell (place_of w x)) None
  nodes_untold none stays =
      stays ∙ tree_none x.tree t (option_and_then tell (place_of w x)) old before (λ same. ap (option_and_then tell) (place_unknown w t none x same))

-- all trees
pub all_told : (w : Workspace) → {A : Type 0} (tell : PlaceRow → Option A) (x : NodeId) (t : ℕ) (old : Option A) → length w.files + length w.expansions ≤ t
    → old ≡ cond (ltb x.tree t) (option_and_then tell (place_of w x)) None → old ≡ option_and_then tell (place_of w x)
all_told w tell x t old past before =
    tree_all x.tree t (option_and_then tell (place_of w x)) old before (λ behind. ap (option_and_then tell) (no_place_past w x (omega (arith, past, behind))))
