-- What stands in the places of matches, one match after the other.
use Rattle.std.proofs.Common.{◌≡◌, ◌∙◌, ℕ, ◌+◌, ◌<◌, ◌≤◌, List, [], ◌∷◌, ◌++◌, drop, get_or, length, slice_get, String, Option, Some, None, refl, ap, sym, arith}
use Rattle.std.specs.Global.{Global}
use Rattle.std.specs.Option.{option_and_then, option_map}
use Rattle.std.proofs.lemmas.List.{append-nil, append_assoc, drop_all, drop_more, get_or-map}
use Rattle.ssr_syntax_kinds.specs.declared.range.TextRange.{TextRange}
use Rattle.ssr_base_trees.specs.Applied.{change_of, changes_of}
use Rattle.ssr_base_trees.specs.Changes.{Change}
use Rattle.ssr_base_trees.specs.Workspace.{Workspace}
use Rattle.ide_ssr_bindings.specs.Found.{FoundMatch}
use Rattle.ssr_swaps.specs.declared.swap.Swap.{Swap}
use Rattle.ide_ssr_resolved_rule.specs.Resolved.{ResolvedRule}
use Rattle.ide_ssr_nesting.specs.Holding.{Kept}
use Rattle.ide_ssr_edited.specs.Expected.{swap_at_place, swap_of, swaps_for}

-- swaps in front of those that are told
abbrev pub behind : List Swap → Option (List Swap) → Option (List Swap)
behind front told = option_map (λ (swaps : List Swap). front ++ swaps) told

module _ (kept : Kept) (rules : List ResolvedRule) (file : ℕ) (ns : List ℕ) (cs : List Change) where
  left : ℕ → Option (List Swap)
  left i = swaps_for kept rules file (drop i ns) (drop i cs)

  step : (found : Option (List Swap)) (front : List Swap) (swap : Swap) → behind front (option_map (λ (swaps : List Swap). swap ∷ swaps) found) ≡ behind (front ++ swap ∷ []) found
  step None front swap = refl
  step (Some swaps) front swap = ap (λ (all : List Swap). Some all) (sym (append_assoc front (swap ∷ []) swaps))

  here : (i : ℕ) (n : ℕ) (c : Change) → i < length ns → i < length cs → n ≡ get_or ns i 0 → c ≡ get_or cs i c
      → left i ≡ option_and_then (λ (swap : Swap). option_map (λ (swaps : List Swap). swap ∷ swaps) (left (i + 1))) (swap_at_place kept rules file n c)
  unfolding left
  here i n c low lower is other =
      ap (λ (xs : List ℕ). swaps_for kept rules file xs (drop i cs)) (drop_more ns i 0 low ∙ ap (λ (x : ℕ). x ∷ drop (i + 1) ns) (sym is))
      ∙ ap (λ (ys : List Change). swaps_for kept rules file (n ∷ drop (i + 1) ns) ys) (drop_more cs i c lower ∙ ap (λ (y : Change). y ∷ drop (i + 1) cs) (sym other))

  -- with one swap more
  pub one_more : (i n : ℕ) (c : Change) (swap : Swap) (front new : List Swap) → i < length ns → i < length cs → n ≡ get_or ns i 0 → c ≡ get_or cs i c
      → Some swap ≡ swap_at_place kept rules file n c → new ≡ front ++ swap ∷ []
      → behind front (swaps_for kept rules file (drop i ns) (drop i cs)) ≡ swaps_for kept rules file ns cs
      → behind new (swaps_for kept rules file (drop (i + 1) ns) (drop (i + 1) cs)) ≡ swaps_for kept rules file ns cs
  unfolding left
  one_more i n c swap front new low lower is other found added so_far =
      ap (λ (f : List Swap). behind f (left (i + 1))) added
      ∙ sym (step (left (i + 1)) front swap)
      ∙ ap (λ (o : Option Swap). behind front (option_and_then (λ (s : Swap). option_map (λ (swaps : List Swap). s ∷ swaps) (left (i + 1))) o)) found
      ∙ ap (behind front) (sym (here i n c low lower is other)) ∙ so_far

  -- there is none for one
  pub none_here : (i n : ℕ) (c : Change) (front : List Swap) → i < length ns → i < length cs → n ≡ get_or ns i 0 → c ≡ get_or cs i c
      → None ≡ swap_at_place kept rules file n c
      → behind front (swaps_for kept rules file (drop i ns) (drop i cs)) ≡ swaps_for kept rules file ns cs
      → None ≡ swaps_for kept rules file ns cs
  unfolding left
  none_here i n c front low lower is other found so_far =
      ap (λ (o : Option Swap). behind front (option_and_then (λ (s : Swap). option_map (λ (swaps : List Swap). s ∷ swaps) (left (i + 1))) o)) found
      ∙ ap (behind front) (sym (here i n c low lower is other)) ∙ so_far

  -- all are gone through
  pub all_told : (i : ℕ) (front : List Swap) → length ns ≤ i → length cs ≤ i
      → behind front (swaps_for kept rules file (drop i ns) (drop i cs)) ≡ swaps_for kept rules file ns cs
      → Some front ≡ swaps_for kept rules file ns cs
  all_told i front all others so_far =
      ap (λ (f : List Swap). Some f) (sym (append-nil front))
      ∙ ap (λ (xs : List ℕ). behind front (swaps_for kept rules file xs [])) (sym (drop_all i ns all))
      ∙ ap (λ (ys : List Change). behind front (swaps_for kept rules file (drop i ns) ys)) (sym (drop_all i cs others)) ∙ so_far

-- lists of other lengths
pub lengths_differ : (kept : Kept) (rules : List ResolvedRule) (file : ℕ) (ns : List ℕ) (cs : List Change)
    → (length ns ≡ length cs → ⊥) → None ≡ swaps_for kept rules file ns cs
lengths_differ kept rules file [] [] differ = absurd (differ refl)
lengths_differ kept rules file [] (c ∷ cs) differ = refl
lengths_differ kept rules file (n ∷ ns) [] differ = refl
lengths_differ kept rules file (n ∷ ns) (c ∷ cs) differ =
    by (swap_at_place kept rules file n c) (lengths_differ kept rules file ns cs (λ same. differ (omega arith)))
  where
    by : (found : Option Swap) → None ≡ swaps_for kept rules file ns cs
        → None ≡ option_and_then (λ (swap : Swap). option_map (λ (swaps : List Swap). swap ∷ swaps) (swaps_for kept rules file ns cs)) found
    by None e = refl
    by (Some swap) e = ap (option_map (λ (swaps : List Swap). swap ∷ swaps)) e

-- what stands in the place of a match is what stands in that of the match of its place
pub found_at : (kept : Kept) (rules : List ResolvedRule) (file n : ℕ) (w : Workspace) (m : FoundMatch) (c d : Change) (swap : Option Swap)
    → kept.workspace ≡ w → slice_get kept.matches n ≡ Some m → d ≡ c → swap ≡ swap_of w rules file d m → swap ≡ swap_at_place kept rules file n c
found_at kept rules file n w m c d swap same at change told =
    told ∙ ap (λ (d : Change). swap_of w rules file d m) change ∙ ap (λ (w : Workspace). swap_of w rules file c m) (sym same)
    ∙ ap (option_and_then (swap_of kept.workspace rules file c)) (sym at)

-- the change of a place
pub change_at : (pairs : List (TextRange × String Global)) (i : ℕ) (pair : TextRange × String Global) → i < length pairs → pair ≡ get_or pairs i pair
    → change_of pair ≡ get_or (changes_of pairs) i (change_of pair)
change_at pairs i pair low is = ap change_of is ∙ sym (get_or-map change_of pairs i pair (change_of pair) low)
