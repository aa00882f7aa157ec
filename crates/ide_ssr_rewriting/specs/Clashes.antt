-- Clashes: what stands for the matches of one list, and which two of it can't both be made.
use Rattle.std.specs.Prelude.{ℕ, ◌≡◌, ◌==◌, ◌&&◌, ◌||◌, not, nat_lt, min, max, bytes_eq, Bool, false, List, [], ◌∷◌, ◌++◌, map, filter, length, Option, Some, None, is_some, unwrap_or, Contains}
use Rattle.std.specs.Cmp.Lexicographic.{slice_cmp}
use Rattle.std.specs.List.{AllPass, list_all, dedup}
use Rattle.std.specs.Ordering.{is_le, nat_cmp}
use Rattle.ssr_base_trees.specs.declared.ids.FileRange.{FileRange}
use Rattle.ssr_base_trees.specs.Changes.{Change}
use Rattle.ssr_base_trees.specs.Workspace.{FileSpan, file_span_of}

-- what stands for the bytes of a range: a text, or none where something below it clashes
pub record Rewrite : Type 0 where
  pub range : FileSpan
  pub text : Option (List ℕ)

-- ** Which two clash.

abbrev pub same_range : FileSpan → FileSpan → Bool
same_range a b = (a.file == b.file) && (a.span.start == b.span.start && a.span.end == b.span.end)

-- two ranges of one file have a byte in common
abbrev pub share_byte : FileSpan → FileSpan → Bool
share_byte a b = (a.file == b.file) && nat_lt (max a.span.start b.span.start) (min a.span.end b.span.end)

-- two texts are known and differ
abbrev pub differ : Option (List ℕ) → Option (List ℕ) → Bool
differ (Some a) (Some b) = not (bytes_eq a b)
differ (Some a) None = false
differ None b = false

-- Two clash that share a byte, and have other ranges or differ in their texts. What has no text is told by its range alone.
unfoldable pub is_clash : Rewrite → Rewrite → Bool
is_clash a b = share_byte a.range b.range && (not (same_range a.range b.range) || differ a.text b.text)

-- the ranges of two that clash, of which the first one stands earlier in their list
pub record Clash : Type 0 where
  pub earlier : FileSpan
  pub later : FileSpan

abbrev pub clash_of : FileRange × FileRange → Clash
clash_of ranges = record { earlier = file_span_of ranges.0; later = file_span_of ranges.1 }

-- the clashes of one with those behind it
abbrev pub clashes_with : Rewrite → List Rewrite → List Clash
clashes_with r rs = map (λ s. record { earlier = r.range; later = s.range }) (filter (is_clash r) rs)

-- all clashes of a list
abbrev pub clashes : List Rewrite → List Clash
clashes [] = []
clashes (r ∷ rs) = clashes_with r rs ++ clashes rs

-- ** The first one.

-- ranges by file, then start, then end
abbrev pub range_key : FileSpan → List ℕ
range_key range = range.file ∷ range.span.start ∷ range.span.end ∷ []

-- clashes by the earlier range, then the later one
unfoldable pub clash_le : Clash → Clash → Bool
clash_le c d = is_le (slice_cmp nat_cmp (range_key c.earlier ++ range_key c.later) (range_key d.earlier ++ range_key d.later))

-- the first clash is one of the clashes, and none comes before it; there is none where there are no clashes
abbrev pub IsFirst : List Clash → Option Clash → Type 0
IsFirst clashes None = clashes ≡ []
IsFirst clashes (Some first) = Contains clashes first × AllPass (clash_le first) clashes

-- ** Lists that can be made.

-- all texts are known, and no two clash
abbrev pub is_clean : List Rewrite → Bool
is_clean list = list_all (λ r. is_some r.text) list && (length (clashes list) == 0)

abbrev pub change_of : Rewrite → Change
change_of r = record { start = r.range.span.start; end = r.range.span.end; text = unwrap_or r.text [] }

-- the changes that a list makes: those of one range, which stand side by side, count once
abbrev pub changes_made : List Rewrite → List Change
changes_made list = map change_of (dedup (λ r kept. same_range r.range kept.range) list)
