-- The table that tells what stands in the places of nodes.
use Rattle.std.proofs.Common.{◌≡◌, ◌∙◌, ℕ, ◌+◌, ◌<◌, ◌≤◌, Bool, true, false, List, ◌∷◌, drop, get_or, length, Option, Some, None, ap, sym, arith, inl, inr}
use Rattle.std.specs.Prelude.{◌==◌, if◌then◌else◌, slice_get}
use Rattle.std.specs.Option.{option_and_then, option_map}
use Rattle.std.proofs.Math.ListN.{set, replicate}
use Rattle.std.proofs.lemmas.Bool.{cases_eq, eq-eqb, ne_eqb}
use Rattle.std.proofs.lemmas.Grind.{get_or-set_at}
use Rattle.std.proofs.lemmas.List.{drop_more, drop_all, get_or-replicate, get_or-set_other, length-replicate, length-set}
use Rattle.std.proofs.lemmas.Option.{slice_get-get_or}
use Rattle.ssr_swaps.specs.declared.swap.Swap.{Swap}
use Rattle.ssr_swaps.specs.Private.Swapping.{Tells}
use Rattle.ssr_swaps.specs.Swapped.{swap_at}

-- an empty table tells of no swap
pub tells_none : (swaps : List Swap) (count from : ℕ) → length swaps ≤ from → Tells (replicate count None) swaps (drop from swaps) count
tells_none swaps count from all = record {
  counted = length-replicate count None;
  each = λ n low.
      ap (λ (place : Option ℕ). option_map (λ swap. swap.tree) (option_and_then (slice_get swaps) place)) (get_or-replicate count n None None low)
      ∙ ap (λ (ss : List Swap). swap_at ss n) (sym (drop_all from swaps all));
}

module _ (swaps : List Swap) (place : ℕ) (s : Swap) (low : place < length swaps) (is : s ≡ get_or swaps place s) where
  left_here : drop place swaps ≡ s ∷ drop (place + 1) swaps
  left_here = drop_more swaps place s low ∙ ap (λ (x : Swap). x ∷ drop (place + 1) swaps) (sym is)

  there : slice_get swaps place ≡ Some s
  there = slice_get-get_or swaps place s low ∙ ap (λ (x : Swap). Some x) (sym is)

  first : (n : ℕ) (b : Bool) → (s.node.0 == n) ≡ b → swap_at (drop place swaps) n ≡ (if b then Some s.tree else swap_at (drop (place + 1) swaps) n)
  first n b e =
      ap (λ (ss : List Swap). swap_at ss n) left_here
      ∙ ap (λ (c : Bool). if c then Some s.tree else swap_at (drop (place + 1) swaps) n) e

  -- the table with the place of one swap more
  pub tells_more : (table : List (Option ℕ)) (count : ℕ) → s.node.0 < length table → Tells table swaps (drop (place + 1) swaps) count
      → Tells (set table s.node.0 (Some place)) swaps (drop place swaps) count
  tells_more table count within so_far = record {
    counted = length-set table s.node.0 (Some place) ∙ so_far.counted;
    each = λ n below.
        elim (cases_eq n s.node.0) [
          | inl same ↦
              ap (λ (p : Option ℕ). option_map (λ swap. swap.tree) (option_and_then (slice_get swaps) p)) (get_or-set_at table s.node.0 n (Some place) None same within)
              ∙ ap (option_map (λ swap. swap.tree)) there ∙ sym (first n true (eq-eqb s.node.0 n (sym same)))
          | inr other ↦
              ap (λ (p : Option ℕ). option_map (λ swap. swap.tree) (option_and_then (slice_get swaps) p)) (get_or-set_other table s.node.0 n (Some place) None other)
              ∙ so_far.each n below ∙ sym (first n false (ne_eqb s.node.0 n (λ same. other (sym same))))
        ];
  }

  -- a swap for a number that the table hasn't
  pub tells_still : (table : List (Option ℕ)) (count : ℕ) → length table ≤ s.node.0 → Tells table swaps (drop (place + 1) swaps) count
      → Tells table swaps (drop place swaps) count
  tells_still table count past so_far = record {
    counted = so_far.counted;
    each = λ n below.
        so_far.each n below
        ∙ sym (first n false (ne_eqb s.node.0 n (λ same. omega (arith, so_far.counted))));
  }
