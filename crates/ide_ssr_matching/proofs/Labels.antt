-- Labels: which nodes have the same one.
use Rattle.std.proofs.Common.{◌≡◌, ℕ, true, false, List, Option, Some, None, refl, sym, ◌∙◌, ap, bytes_eq}
use Rattle.std.proofs.lemmas.Slice.Eq.{bytes_eq-Decides, slice_eq-Decides}
use Rattle.std.specs.Cmp.Lexicographic.{pointwise}
use Rattle.std.specs.Option.{option_map_or}
use Rattle.ssr_syntax_tree.specs.Places.{Node}
use Rattle.ide_ssr_matching.specs.Records.{label_of, has_label, have_same_label}

same_texts : (xs ys : List (List ℕ)) → pointwise bytes_eq xs ys ≡ true → xs ≡ ys
same_texts xs ys is = (slice_eq-Decides bytes_eq-Decides xs ys (pointwise bytes_eq xs ys) refl).0 is

own_texts : (xs : List (List ℕ)) → pointwise bytes_eq xs xs ≡ true
own_texts xs = (slice_eq-Decides bytes_eq-Decides xs xs (pointwise bytes_eq xs xs) refl).1 refl

-- the label that two nodes have
record HaveLabel (a b : Node) : Type 0 where
  label : List (List ℕ)
  of_a : label_of a ≡ Some label
  of_b : label_of b ≡ Some label

have_label : (a b : Node) → have_same_label a b ≡ true → HaveLabel a b
have_label a b is = by (label_of a) refl (label_of b) refl is
  where
    by : (o : Option (List (List ℕ))) → label_of a ≡ o → (p : Option (List (List ℕ))) → label_of b ≡ p
        → option_map_or (λ label. option_map_or (pointwise bytes_eq label) p false) o false ≡ true → HaveLabel a b
    by None a_is p b_is like = let e : false ≡ true = like in cc
    by (Some label) a_is None b_is like = let e : false ≡ true = like in cc
    by (Some label) a_is (Some other) b_is like =
        record { label = label; of_a = a_is; of_b = b_is ∙ ap Some (sym (same_texts label other like)) }

-- two nodes that have the same label as a third one have the same
pub third_label : (a b x : Node) → have_same_label a x ≡ true → have_same_label b x ≡ true → have_same_label b a ≡ true
third_label a b x first_is second_is =
    let first = have_label a x first_is in
    let second = have_label b x second_is in
    let e : Some first.label ≡ Some second.label = sym first.of_b ∙ second.of_b in
    let same : first.label ≡ second.label = cc in
    ap (λ o. option_map_or (λ label. has_label label a) o false) second.of_a
    ∙ ap (λ o. option_map_or (pointwise bytes_eq second.label) o false) (first.of_a ∙ ap Some same)
    ∙ own_texts second.label
