-- Ranges that share no byte.
use Rattle.std.proofs.Common.{◌≡◌, ℕ, ◌+◌, ◌<◌, List, [], ◌∷◌, ◌++◌, length, get_or, take, All, AllPairs, Some, sym, ◌∙◌, subst, arith}
use Rattle.std.proofs.lemmas.List.{take_more, get_or_default, get_or-take, length-take}
use Rattle.std.proofs.lemmas.List.Quantifiers.{all_pairs_push}
use Rattle.std.proofs.lemmas.List.Elements.{All-nil, All-cons, All-head, All-tail}
use Rattle.std.proofs.lemmas.List.Kept.{AllPairs-cons}
use Rattle.std.proofs.lemmas.Option.{same_Some}
use Rattle.ssr_base_trees.specs.declared.ids.FileRange.{FileRange}
use Rattle.ssr_base_trees.specs.Workspace.{PlacedTree, file_span_of}
use Rattle.ide_ssr_bindings.specs.declared.bindings.Binding.{Binding}
use Rattle.ide_ssr_bindings.specs.Found.{held_range, AreDisjoint, ShareNoByte}
use Rattle.ide_ssr_search.specs.WholeMatches.{IsPlaced}
use Rattle.ide_ssr_search.specs.Private.Whole.{AreRanges}
use Rattle.ssr_syntax_tree.proofs.Lists.{pairs_none, pairs_head, pairs_tail}

-- ** Ranges of what placeholders hold.

abbrev pub Disjoint : FileRange → FileRange → Type 0
Disjoint a b = AreDisjoint (file_span_of a) (file_span_of b)

module _ (ts : List PlacedTree) (t : ℕ) where
  abbrev pub HeldApart : Binding → Binding → Type 0
  HeldApart b c = ShareNoByte ts t b c

  pub ranges_push : (bs : List Binding) (rs : List FileRange) (b : Binding) (r : FileRange) → AreRanges ts t bs rs → IsPlaced ts t (held_range ts t b)
      → held_range ts t b ≡ Some (file_span_of r) → AreRanges ts t (bs ++ b ∷ []) (rs ++ r ∷ [])
  ranges_push [] [] b r are placed is = (placed, is, tt)
  ranges_push [] (q ∷ rs) b r are placed is = absurd are
  ranges_push (c ∷ bs) [] b r are placed is = absurd are
  ranges_push (c ∷ bs) (q ∷ rs) b r are placed is = (are.0, are.1, ranges_push bs rs b r are.2 placed is)

  pub ranges_placed : (bs : List Binding) (rs : List FileRange) → AreRanges ts t bs rs → All (λ b. IsPlaced ts t (held_range ts t b)) bs
  ranges_placed [] [] are = All-nil (λ b. IsPlaced ts t (held_range ts t b))
  ranges_placed [] (r ∷ rs) are = absurd are
  ranges_placed (b ∷ bs) [] are = absurd are
  ranges_placed (b ∷ bs) (r ∷ rs) are = All-cons (λ b. IsPlaced ts t (held_range ts t b)) b bs are.0 (ranges_placed bs rs are.2)

  one_apart : (b : Binding) (r : FileRange) (bs : List Binding) (rs : List FileRange) → held_range ts t b ≡ Some (file_span_of r)
      → AreRanges ts t bs rs → All (Disjoint r) rs → All (HeldApart b) bs
  one_apart b r [] [] is are all = All-nil (HeldApart b)
  one_apart b r [] (q ∷ rs) is are all = absurd are
  one_apart b r (c ∷ bs) [] is are all = absurd are
  one_apart b r (c ∷ bs) (q ∷ rs) is are all =
      let here : HeldApart b c = λ x y e f.
      subst (λ x. AreDisjoint x y) (same_Some (file_span_of r) x (sym is ∙ e))
      (subst (AreDisjoint (file_span_of r)) (same_Some (file_span_of q) y (sym are.1 ∙ f)) (All-head (Disjoint r) q rs all)) in
      All-cons (HeldApart b) c bs here (one_apart b r bs rs is are.2 (All-tail (Disjoint r) q rs all))

  pub ranges_apart : (bs : List Binding) (rs : List FileRange) → AreRanges ts t bs rs → AllPairs Disjoint rs → AllPairs HeldApart bs
  ranges_apart [] [] are pairs = pairs_none HeldApart
  ranges_apart [] (r ∷ rs) are pairs = absurd are
  ranges_apart (b ∷ bs) [] are pairs = absurd are
  ranges_apart (b ∷ bs) (r ∷ rs) are pairs =
      AllPairs-cons HeldApart b bs (one_apart b r bs rs are.1 are.2 (pairs_head Disjoint r rs pairs))
      (ranges_apart bs rs are.2 (pairs_tail Disjoint r rs pairs))

  one_disjoint : (b : Binding) (r : FileRange) (bs : List Binding) (rs : List FileRange) → held_range ts t b ≡ Some (file_span_of r)
      → AreRanges ts t bs rs → All (HeldApart b) bs → All (Disjoint r) rs
  one_disjoint b r [] [] is are all = All-nil (Disjoint r)
  one_disjoint b r [] (q ∷ rs) is are all = absurd are
  one_disjoint b r (c ∷ bs) [] is are all = absurd are
  one_disjoint b r (c ∷ bs) (q ∷ rs) is are all =
      All-cons (Disjoint r) q rs (All-head (HeldApart b) c bs all (file_span_of r) (file_span_of q) is are.1)
      (one_disjoint b r bs rs is are.2 (All-tail (HeldApart b) c bs all))

  pub ranges_disjoint : (bs : List Binding) (rs : List FileRange) → AreRanges ts t bs rs → AllPairs HeldApart bs → AllPairs Disjoint rs
  ranges_disjoint [] [] are pairs = pairs_none Disjoint
  ranges_disjoint [] (r ∷ rs) are pairs = absurd are
  ranges_disjoint (b ∷ bs) [] are pairs = absurd are
  ranges_disjoint (b ∷ bs) (r ∷ rs) are pairs =
      AllPairs-cons Disjoint r rs (one_disjoint b r bs rs are.1 are.2 (pairs_head HeldApart b bs pairs))
      (ranges_disjoint bs rs are.2 (pairs_tail HeldApart b bs pairs))

-- ** The test.

-- no range before a place has a byte in common with that at the place
pub disjoint_more : (rs : List FileRange) (n : ℕ) (r : FileRange) → n < length rs → r ≡ get_or rs n r
    → All (λ other. Disjoint other r) (take n rs) → AllPairs Disjoint (take n rs) → AllPairs Disjoint (take (n + 1) rs)
disjoint_more rs n r within is apart so_far =
    subst (AllPairs Disjoint) (sym (take_more rs n r within))
    (all_pairs_push Disjoint (take n rs) (get_or rs n r) so_far
    (λ k d low. subst (Disjoint (get_or (take n rs) k d)) is (apart k d low)))

-- one before a place that does
pub not_disjoint : (rs : List FileRange) (n : ℕ) (r : FileRange) → n < length rs → r ≡ get_or rs n r
    → ¬ All (λ other. Disjoint other r) (take n rs) → ¬ AllPairs Disjoint rs
not_disjoint rs n r within is some pairs =
    some (λ k d low.
    let before : k < n = omega (arith, length-take n rs, low) in
    subst (λ x. Disjoint x r) (sym (get_or-take n rs k d before))
    (subst (Disjoint (get_or rs k d)) (get_or_default rs n d r within ∙ sym is) (pairs k n d before within)))
