-- What becomes of places when a tree is put in.
use Rattle.std.proofs.Common.{◌≡◌, ◌≢◌, ℕ, ◌+◌, ◌<◌, ◌≤◌, inl, inr, List, ◌∷◌, length, Option, Some, None, refl, sym, ap, ◌∙◌, arith, eq-eqb, ne_eqb}
use Rattle.std.proofs.lemmas.Bool.{cases_lt}
use Rattle.std.proofs.lemmas.Option.{none-some, same_Some}
use Rattle.std.specs.Prelude.{IfSome}
use Rattle.ssr_syntax_tree.specs.Places.{node_of, size_of}
use Rattle.ssr_base_trees.specs.declared.ids.NodeId.{NodeId}
use Rattle.ssr_base_trees.specs.Workspace.{PlacedTree, above}
use Rattle.ssr_base_trees.specs.Built.{IsNodeOf}
use Rattle.ide_ssr_nesting.specs.Order.{count_in, count_of, moved, entry, moved_by, place, end_place}
use Rattle.ide_ssr_nesting.proofs.Moved.{moved_not, moved_far, moved_up, moved_back}

-- how nodes lie: each has its place and an end behind it; no two have one place; what stands above a node has the smaller
-- place and the wider interval, and of all whose interval has the node it is the last one
pub record IsLaid (trees : List PlacedTree) : Type 0 where
  pub begins : (x : NodeId) → IsNodeOf trees x → place trees x < end_place trees x
  pub ends : (x : NodeId) → IsNodeOf trees x → end_place trees x ≤ count_of trees
  pub one : (a b : NodeId) → IsNodeOf trees a → IsNodeOf trees b → place trees a ≡ place trees b → a ≡ b
  pub later : (x up : NodeId) → IsNodeOf trees x → above trees x ≡ Some up → place trees up < place trees x
  pub holds : (x up : NodeId) → IsNodeOf trees x → above trees x ≡ Some up → end_place trees x ≤ end_place trees up
  pub down : (a b : NodeId) → IsNodeOf trees a → IsNodeOf trees b → place trees a < place trees b → place trees b < end_place trees a
      → (up : NodeId) × (above trees b ≡ Some up) × (place trees a ≤ place trees up)

-- what becomes of places: the nodes of the new tree are put in from `first` on, and the others move without changing their order
pub record IsPut (p : PlacedTree) (earlier : List PlacedTree) : Type 0 where
  pub first : ℕ
  pub move : ℕ → ℕ
  pub new_place : (x : NodeId) → x.tree ≡ length earlier → place (p ∷ earlier) x ≡ first + x.node.0
  pub new_end : (x : NodeId) → x.tree ≡ length earlier → end_place (p ∷ earlier) x ≡ first + (x.node.0 + size_of (node_of p.syntax x.node.0))
  pub old_place : (x : NodeId) → x.tree ≢ length earlier → place (p ∷ earlier) x ≡ move (place earlier x)
  pub old_end : (x : NodeId) → x.tree ≢ length earlier → end_place (p ∷ earlier) x ≡ move (end_place earlier x)
  pub up : (x y : ℕ) → x < y → move x < move y
  pub back : (x y : ℕ) → move x < move y → x < y
  pub fits : first + count_in p ≤ count_of (p ∷ earlier)
  pub bound : (y : ℕ) → y ≤ count_of earlier → move y ≤ count_of (p ∷ earlier)
  -- behind all others, or directly behind the call
  pub uncalled : p.call ≡ None → (y : ℕ) → y ≤ count_of earlier → move y ≤ first
  pub called : (c : NodeId) → p.call ≡ Some c → 1 + move (place earlier c) ≡ first
  pub past : (c : NodeId) → p.call ≡ Some c → (y : ℕ) → place earlier c < y → first + count_in p ≤ move y

module _ (p : PlacedTree) (earlier : List PlacedTree) where
  first_at : (o : Option NodeId) → p.call ≡ o → (x : NodeId) → x.tree ≡ length earlier
      → place (p ∷ earlier) x ≡ entry (place earlier) (count_of earlier) o + x.node.0
  first_at o is x here =
      rw (eq-eqb x.tree (length earlier) here) (ap (λ o. entry (place earlier) (count_of earlier) o + x.node.0) is)

  first_end : (o : Option NodeId) → p.call ≡ o → (x : NodeId) → x.tree ≡ length earlier
      → end_place (p ∷ earlier) x ≡ entry (place earlier) (count_of earlier) o + (x.node.0 + size_of (node_of p.syntax x.node.0))
  first_end o is x here =
      rw (eq-eqb x.tree (length earlier) here)
      (ap (λ o. entry (place earlier) (count_of earlier) o + (x.node.0 + size_of (node_of p.syntax x.node.0))) is)

  other_at : (o : Option NodeId) → p.call ≡ o → (x : NodeId) → x.tree ≢ length earlier
      → place (p ∷ earlier) x ≡ moved_by (place earlier) (count_in p) o (place earlier x)
  other_at o is x other =
      rw (ne_eqb x.tree (length earlier) other) (ap (λ o. moved_by (place earlier) (count_in p) o (place earlier x)) is)

  other_end : (o : Option NodeId) → p.call ≡ o → (x : NodeId) → x.tree ≢ length earlier
      → end_place (p ∷ earlier) x ≡ moved_by (place earlier) (count_in p) o (end_place earlier x)
  other_end o is x other =
      rw (ne_eqb x.tree (length earlier) other) (ap (λ o. moved_by (place earlier) (count_in p) o (end_place earlier x)) is)

  -- a file
  put_behind : p.call ≡ None → IsPut p earlier
  put_behind none = record {
    first = count_of earlier;
    move = λ y. y;
    new_place = first_at None none;
    new_end = first_end None none;
    old_place = other_at None none;
    old_end = other_end None none;
    up = λ x y less. less;
    back = λ x y less. less;
    fits = omega arith;
    bound = λ y low. omega arith;
    uncalled = λ _ y low. low;
    called = λ c is. absurd (none-some c (sym none ∙ is));
    past = λ c is y far. absurd (none-some c (sym none ∙ is));
  }

  -- an expansion
  put_at : (c : NodeId) → p.call ≡ Some c → place earlier c < count_of earlier → IsPut p earlier
  put_at c is within = record {
    first = 1 + place earlier c;
    move = moved (place earlier c) (count_in p);
    new_place = first_at (Some c) is;
    new_end = first_end (Some c) is;
    old_place = other_at (Some c) is;
    old_end = other_end (Some c) is;
    up = moved_up (place earlier c) (count_in p);
    back = moved_back (place earlier c) (count_in p);
    fits = omega arith;
    bound = λ y low. elim (cases_lt (place earlier c) y) [
      | inl far ↦ omega (arith, moved_far (place earlier c) (count_in p) y far)
      | inr near ↦ omega (arith, moved_not (place earlier c) (count_in p) y near)
    ];
    uncalled = λ none. absurd (none-some c (sym none ∙ is));
    called = λ d is_d. (
        let same : d ≡ c = same_Some d c (sym is_d ∙ is) in
        let at : place earlier d ≡ place earlier c = ap (place earlier) same in
        let kept = moved_not (place earlier c) (count_in p) (place earlier d) (omega arith) in omega arith
        );
    past = λ d is_d y far. (
        let same : d ≡ c = same_Some d c (sym is_d ∙ is) in
        let at : place earlier d ≡ place earlier c = ap (place earlier) same in
        let gone = moved_far (place earlier c) (count_in p) y (omega arith) in omega arith
        );
  }

pub put : (p : PlacedTree) (earlier : List PlacedTree) → IsLaid earlier → IfSome p.call (IsNodeOf earlier) → IsPut p earlier
put p earlier laid node = by p.call refl node
  where
    by : (o : Option NodeId) → p.call ≡ o → IfSome o (IsNodeOf earlier) → IsPut p earlier
    by None none node = put_behind p earlier none
    by (Some c) is node = put_at p earlier c is (let begins = laid.begins c node in let ends = laid.ends c node in omega arith)
