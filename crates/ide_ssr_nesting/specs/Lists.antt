-- The lists of kept matches: those that one placeholder holds, and the outermost ones. A list is in the order of file, start
-- and end of the original range, rule, tree and node.
use Rattle.std.specs.Prelude.{ℕ, ◌≡◌, ◌==◌, ◌&&◌, ◌<◌, ◌↔◌, Bool, List, [], ◌∷◌, ◌++◌, length, map, filter, zip, slice_get, unwrap_or, Option, Some, AllPairs, Contains}
use Rattle.std.specs.Cmp.Lexicographic.{slice_cmp}
use Rattle.std.specs.Option.{option_map_or}
use Rattle.std.specs.Ordering.{nat_cmp}
use Rattle.std.specs.declared.cmp.Ordering.TheVariants.{Less}
use Rattle.ssr_base_trees.specs.Workspace.{PlacedTree, FileSpan, trees, original_range}
use Rattle.ide_ssr_bindings.specs.Found.{FoundMatch}
use Rattle.ide_ssr_nesting.specs.declared.holders.Holder.{Holder}
use Rattle.ide_ssr_nesting.specs.Holding.{Kept}

-- each kept match has an original range
abbrev pub range_of : List PlacedTree → FoundMatch → FileSpan
range_of trees m = unwrap_or (original_range trees m.node) (record { file = 0; span = record { start = 0; end = 0 } })

-- the numbers that are compared, one after another
abbrev pub listing_key : List PlacedTree → FoundMatch → List ℕ
listing_key trees m =
    (range_of trees m).file ∷ ((range_of trees m).span.start ∷ ((range_of trees m).span.end ∷ (m.rule ∷ (m.node.tree ∷ (m.node.node.0 ∷ [])))))

-- the outermost matches come first, then those of each placeholder, by the places of match and binding
abbrev pub held : Option Holder → ℕ
held holder = option_map_or (λ h. 1) holder 0

abbrev pub held_place : Option Holder → ℕ
held_place holder = option_map_or (λ h. h.place) holder 0

abbrev pub held_binding : Option Holder → ℕ
held_binding holder = option_map_or (λ h. h.binding) holder 0

abbrev pub holder_key : Option Holder → List ℕ
holder_key holder = held holder ∷ (held_place holder ∷ (held_binding holder ∷ []))

abbrev pub lists_key : List PlacedTree → FoundMatch → Option Holder → List ℕ
lists_key trees m holder = holder_key holder ++ listing_key trees m

-- places of kept matches, and beside each of them what holds the match
pub record Listing : Type 0 where
  pub places : List ℕ
  pub holders : List (Option Holder)

-- whether two holders are one
abbrev pub same_holder : Option Holder → Option Holder → Bool
same_holder g h = held g == held h && held_place g == held_place h && held_binding g == held_binding h

-- the places that have this holder beside them, in order: those under its placeholder; without a holder, those of the
-- outermost matches
abbrev pub listed : Listing → Option Holder → List ℕ
listed lists holder = map (λ row. row.0) (filter (λ row. same_holder row.1 holder) (zip lists.places lists.holders))

-- all kept matches, each once, list by list
pub record AreLists (kept : Kept) (lists : Listing) : Type 0 where
  pub each : (n : ℕ) → Contains lists.places n ↔ (n < length kept.matches)
  pub beside : map Some lists.holders ≡ map (slice_get kept.holders) lists.places
  pub in_order : AllPairs (λ i j. (k m : FoundMatch) (g h : Option Holder)
      → slice_get kept.matches i ≡ Some k → slice_get kept.holders i ≡ Some g → slice_get kept.matches j ≡ Some m → slice_get kept.holders j ≡ Some h
      → slice_cmp nat_cmp (lists_key (trees kept.workspace) k g) (lists_key (trees kept.workspace) m h) ≡ Less) lists.places
