-- Laws of the lines between two places, and of places between which two texts are the same.
use Rattle.std.proofs.Common.{◌≡◌, ℕ, zero, suc, ◌+◌, ◌-◌, ◌<◌, ◌≤◌, ◌↔◌, Bool, true, false, IsTrue, List, [], ◌∷◌, ◌++◌, length, take, drop, get_or, sym, ◌∙◌, ap, arith, Some, inl, inr, eq-or-lt_of_le}
use Rattle.std.specs.List.{slice_range, slice_get}
use Rattle.std.specs.Str.{bytes_eq}
use Rattle.std.proofs.Math.Seq.{take-add}
use Rattle.std.proofs.lemmas.List.{take-take, drop-drop, drop_at, take_all, length-take-le, length-drop}
use Rattle.std.proofs.lemmas.Option.{slice_get-get_or}
use Rattle.std.proofs.lemmas.Slice.Eq.{bytes_eq-Decides}
use Rattle.ssr_diff.specs.declared.places.Place.{Place}
use Rattle.ssr_diff.specs.Private.Writing.{Text, AreInOrder, SameLines}

pub slice_none : (xs : Text) (a : ℕ) → slice_range xs a a ≡ []
slice_none xs a = let e : a - a ≡ 0 = omega arith in ap (λ (n : ℕ). take n (drop a xs)) e

pub slice_all : (xs : Text) → slice_range xs 0 (length xs) ≡ xs
slice_all xs = take_all (length xs - 0) xs (omega arith)

pub slice_join : (xs : Text) (a b c : ℕ) → a ≤ b → b ≤ c → slice_range xs a b ++ slice_range xs b c ≡ slice_range xs a c
slice_join xs a b c h k =
    let parts : c - a ≡ (b - a) + (c - b) = omega arith in
    let back : a + (b - a) ≡ b = omega arith in
    sym (ap (λ (n : ℕ). take n (drop a xs)) parts ∙ (take-add (b - a) (c - b) (drop a xs)
    ∙ ap (λ (ys : Text). take (b - a) (drop a xs) ++ take (c - b) ys) (drop-drop (b - a) a xs ∙ ap (λ (n : ℕ). drop n xs) back)))

pub length_slice : (xs : Text) (a b : ℕ) → a ≤ b → b ≤ length xs → length (slice_range xs a b) ≡ b - a
length_slice xs a b h k = length-take-le (b - a) (drop a xs) (omega (arith, length-drop a xs))

pub drop_get : (xs : Text) (a : ℕ) (x : List ℕ) → slice_get xs a ≡ Some x → drop a xs ≡ x ∷ drop (suc a) xs
drop_get [] a x e = cc
drop_get (y ∷ ys) zero x e = cc
drop_get (y ∷ ys) (suc a) x e = drop_get ys a x e

pub slice_one : (xs : Text) (a : ℕ) (x : List ℕ) → slice_get xs a ≡ Some x → slice_range xs a (a + 1) ≡ x ∷ []
slice_one xs a x e =
    let one : (a + 1) - a ≡ 1 = omega arith in
    ap (λ (n : ℕ). take n (drop a xs)) one ∙ ap (λ (ys : Text). take 1 ys) (drop_get xs a x e)

-- one line more
pub slice_more : (xs : Text) (a b : ℕ) (x : List ℕ) → a ≤ b → slice_get xs b ≡ Some x → slice_range xs a b ++ x ∷ [] ≡ slice_range xs a (b + 1)
slice_more xs a b x h e =
    ap (λ (ys : Text). slice_range xs a b ++ ys) (sym (slice_one xs b x e)) ∙ slice_join xs a b (b + 1) h (omega arith)

pub slice_front : (xs : Text) (a b c : ℕ) → a ≤ b → b ≤ c → take (b - a) (slice_range xs a c) ≡ slice_range xs a b
slice_front xs a b c h k = take-take (b - a) (c - a) (drop a xs) (omega arith)

pub slice_back : (xs : Text) (a b c : ℕ) → a ≤ b → b ≤ c → b ≤ length xs → drop (b - a) (slice_range xs a c) ≡ slice_range xs b c
slice_back xs a b c h k l =
    ap (drop (b - a)) (sym (slice_join xs a b c h k)) ∙ drop_at (slice_range xs a b) (slice_range xs b c) (b - a) (length_slice xs a b h l)

pub same_none : (old new : Text) (at : Place) → at.old ≤ length old → at.new ≤ length new → SameLines old new at at
same_none old new at h k = record {
  order = record { old_order = omega arith; new_order = omega arith; old_fits = h; new_fits = k };
  as_many = omega arith;
  lines = slice_none old at.old ∙ sym (slice_none new at.new);
}

pub same_join : (old new : Text) (a b c : Place) → SameLines old new a b → SameLines old new b c → SameLines old new a c
same_join old new a b c f g = record {
  order = record { old_order = omega arith; new_order = omega arith; old_fits = g.order.old_fits; new_fits = g.order.new_fits };
  as_many = omega arith;
  lines = sym (slice_join old a.old b.old c.old f.order.old_order g.order.old_order)
      ∙ (ap (λ (o : Text). o ++ slice_range old b.old c.old) f.lines
      ∙ (ap (λ (o : Text). slice_range new a.new b.new ++ o) g.lines ∙ slice_join new a.new b.new c.new f.order.new_order g.order.new_order));
}

-- up to a place that lies as far in both texts, and from there on
pub same_up_to : (old new : Text) (a b c : Place) → SameLines old new a c → a.old ≤ b.old → b.old ≤ c.old → b.old + a.new ≡ b.new + a.old
    → SameLines old new a b
same_up_to old new a b c f h k e =
    let o : a.new ≤ b.new = omega arith in
    let p : b.new ≤ c.new = omega arith in
    let as_long : b.old - a.old ≡ b.new - a.new = omega arith in
    record {
      order = record { old_order = h; new_order = o; old_fits = omega arith; new_fits = omega arith };
      as_many = e;
      lines = sym (slice_front old a.old b.old c.old h k) ∙ (ap (take (b.old - a.old)) f.lines
          ∙ (ap (λ (n : ℕ). take n (slice_range new a.new c.new)) as_long ∙ slice_front new a.new b.new c.new o p));
    }

pub same_from : (old new : Text) (a b c : Place) → SameLines old new a c → a.old ≤ b.old → b.old ≤ c.old → b.old + a.new ≡ b.new + a.old
    → SameLines old new b c
same_from old new a b c f h k e =
    let o : a.new ≤ b.new = omega arith in
    let p : b.new ≤ c.new = omega arith in
    let as_long : b.old - a.old ≡ b.new - a.new = omega arith in
    record {
      order = record { old_order = k; new_order = p; old_fits = f.order.old_fits; new_fits = f.order.new_fits };
      as_many = omega arith;
      lines = sym (slice_back old a.old b.old c.old h k (omega arith)) ∙ (ap (drop (b.old - a.old)) f.lines
          ∙ (ap (λ (n : ℕ). drop n (slice_range new a.new c.new)) as_long ∙ slice_back new a.new b.new c.new o p (omega arith)));
    }

-- between two places that are one
pub same_empty : (old new : Text) (a b : Place) → AreInOrder old new a b → a.old ≡ b.old → a.new ≡ b.new → SameLines old new a b
same_empty old new a b order o n = record {
  order = order;
  as_many = omega arith;
  lines = ap (slice_range old a.old) (sym o) ∙ (slice_none old a.old ∙ (sym (slice_none new a.new) ∙ ap (slice_range new a.new) n));
}

-- two ranges of which one has a line
pub some_line : (a b c d : ℕ) → a ≤ b → c ≤ d → (a ≡ b → c ≡ d → ⊥) → a + c < b + d
some_line a b c d h k differ =
    elim (eq-or-lt_of_le h) [
      | inl e ↦ elim (eq-or-lt_of_le k) [ inl f ↦ absurd (differ e f) | inr l ↦ omega arith ]
      | inr l ↦ omega arith
    ]

-- the line at a place, where both texts have the same one there
pub same_one : (old new : Text) (at next : Place) → slice_get old at.old ≡ slice_get new at.new → at.old < length old → at.new < length new
    → next.old ≡ at.old + 1 → next.new ≡ at.new + 1 → SameLines old new at next
same_one old new at next same fo f_n io i_n =
    let x = get_or old at.old [] in
    let o : slice_get old at.old ≡ Some x = slice_get-get_or old at.old [] fo in
    let n : slice_get new at.new ≡ Some x = sym same ∙ o in
    record {
      order = record { old_order = omega arith; new_order = omega arith; old_fits = omega arith; new_fits = omega arith };
      as_many = omega arith;
      lines = ap (slice_range old at.old) io ∙ (slice_one old at.old x o ∙ (sym (slice_one new at.new x n) ∙ ap (slice_range new at.new) (sym i_n)));
    }

-- whether two lines are the same
pub agree : (xs ys : Text) (i j : ℕ) (x y : List ℕ) (r : Bool) → slice_get xs i ≡ Some x → slice_get ys j ≡ Some y → r ≡ bytes_eq x y
    → IsTrue r ↔ (slice_get xs i ≡ slice_get ys j)
agree xs ys i j x y r ex ey er =
    let decides = bytes_eq-Decides x y in (
      λ yes. ex ∙ (ap (λ (l : List ℕ). Some l) (decides.0 (sym er ∙ yes)) ∙ sym ey),
      λ same. let alike : Some x ≡ Some y = sym ex ∙ (same ∙ ey) in let xy : x ≡ y = cc in er ∙ decides.1 xy,
    )

pub texts_differ : (x y : List ℕ) (r : Bool) → r ≡ bytes_eq x y → r ≡ false → x ≡ y → ⊥
texts_differ x y r e unequal same = let decides = bytes_eq-Decides x y in let equal = decides.1 same in cc

pub texts_agree : (x y : List ℕ) (r : Bool) → r ≡ bytes_eq x y → r ≡ true → x ≡ y
texts_agree x y r e equal = let decides = bytes_eq-Decides x y in decides.0 (sym e ∙ equal)
