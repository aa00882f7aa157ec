-- Places in two texts, and hunks of them that are being written.
use Rattle.std.specs.Prelude.{ℕ, ◌≡◌, ◌+◌, ◌-◌, ◌<◌, ◌≤◌, List, [], ◌++◌, length, map, flat_map, min, All, Option, Some, None, string_bytes, codes}
use Rattle.std.specs.List.{slice_range}
use Rattle.ssr_diff.specs.declared.places.Place.{Place}
use Rattle.ssr_diff.specs.declared.places.Block.{Block}
use Rattle.ssr_diff.specs.declared.hunks.OpenHunk.{OpenHunk}
use Rattle.ssr_diff.specs.declared.hunks.Hunks.{Hunks}
use Rattle.ssr_diff.specs.Patch.{Line, Kept, Hunk, old_lines, new_lines, Patches, HasContext, BeginsWithChange, EndsWithChange, IsContext, line_text, span_text, hunk_text}

abbrev pub Text : Type 0
Text = List (List ℕ)

-- a place stands before another one, which lies in both texts
pub record AreInOrder (old new : Text) (from to : Place) : Type 0 where
  pub old_order : from.old ≤ to.old
  pub new_order : from.new ≤ to.new
  pub old_fits : to.old ≤ length old
  pub new_fits : to.new ≤ length new

-- both texts have the same lines between two places
pub record SameLines (old new : Text) (from to : Place) : Type 0 where
  pub order : AreInOrder old new from to
  pub as_many : to.old + from.new ≡ to.new + from.old
  pub lines : slice_range old from.old to.old ≡ slice_range new from.new to.new

-- a block of lines that differ, with the same lines before it and behind it up to two places
pub record IsTrimmed (old new : Text) (from to : Place) (block : Block) : Type 0 where
  pub before : SameLines old new from block.from
  pub differs : AreInOrder old new block.from block.to
  pub behind : SameLines old new block.to to
  pub not_empty : block.from.old + block.from.new < block.to.old + block.to.new

-- an open hunk, written with its head
abbrev pub open_text : OpenHunk → List ℕ
open_text hunk =
    codes "@@ -" ++ (span_text hunk.start.old (hunk.end.old - hunk.start.old)
    ++ (codes " +" ++ (span_text hunk.start.new (hunk.end.new - hunk.start.new) ++ (codes " @@\n" ++ string_bytes hunk.text))))

-- a hunk goes on with these lines, up to a place
pub record Extends (hunk longer : OpenHunk) (lines : List Line) (place : Place) : Type 0 where
  pub start : longer.start ≡ hunk.start
  pub end : longer.end ≡ place
  pub text : string_bytes longer.text ≡ string_bytes hunk.text ++ flat_map line_text lines

-- an open hunk shows these lines of the texts
pub record Shows (old new : Text) (hunk : OpenHunk) (lines : List Line) : Type 0 where
  pub text : string_bytes hunk.text ≡ flat_map line_text lines
  pub order : AreInOrder old new hunk.start hunk.end
  pub old_side : old_lines lines ≡ slice_range old hunk.start.old hunk.end.old
  pub new_side : new_lines lines ≡ slice_range new hunk.start.new hunk.end.new

-- a hunk's lines begin with context
pub record BeginsInContext (hunk : OpenHunk) (lines : List Line) : Type 0 where
  pub before : List (List ℕ)
  pub changed : List Line
  pub is : lines ≡ map Kept before ++ changed
  pub context : IsContext before (hunk.start.old ≡ 0)
  pub begins : BeginsWithChange changed
  pub ends : EndsWithChange changed

-- hunks that are written make the new text of the old one up to a place
pub record AreWritten (old new : Text) (text : List ℕ) (hunks : List Hunk) (end : Place) : Type 0 where
  pub written : text ≡ flat_map hunk_text hunks
  pub patches : Patches 0 0 0 hunks (slice_range old 0 end.old) (slice_range new 0 end.new)
  pub context : All (HasContext (length old)) hunks

-- the hunks are written up to an open one, which shows what changes up to its end
pub record IsOpen (old new : Text) (text : List ℕ) (hunk : OpenHunk) : Type 0 where
  pub hunks : List Hunk
  pub last : Place
  pub lines : List Line
  pub closed : AreWritten old new text hunks last
  pub apart : 0 < length hunks → last.old < hunk.start.old
  pub between : SameLines old new last hunk.start
  pub shows : Shows old new hunk lines
  pub begins : BeginsInContext hunk lines

abbrev pub origin : Place
origin = record { old = 0; new = 0 }

-- what changes up to a place is written or in the open hunk
abbrev pub IsWritingParts : Text → Text → List ℕ → Option OpenHunk → Place → Type 0
IsWritingParts old new text None place = (text ≡ []) × SameLines old new origin place
IsWritingParts old new text (Some hunk) place = IsOpen old new text hunk × SameLines old new hunk.end place

abbrev pub IsWriting : Text → Text → Hunks → Type 0
IsWriting old new writing = IsWritingParts old new (string_bytes writing.text) writing.current writing.at

-- before a block: the same, with an open hunk that shows lines up to where the block begins
pub record IsReady (old new : Text) (text : List ℕ) (hunk : OpenHunk) (place : Place) : Type 0 where
  pub hunks : List Hunk
  pub last : Place
  pub lines : List Line
  pub closed : AreWritten old new text hunks last
  pub apart : 0 < length hunks → last.old < hunk.start.old
  pub between : SameLines old new last hunk.start
  pub shows : Shows old new hunk lines
  pub at : hunk.end ≡ place
  pub before : List (List ℕ)
  pub changed : List Line
  pub is : lines ≡ map Kept before ++ changed
  pub context : IsContext before (hunk.start.old ≡ 0)
  pub begins : (more : List Line) → BeginsWithChange more → BeginsWithChange (changed ++ more)

-- hunks make the new text of the old one
pub record AreHunks (old new : Text) (text : List ℕ) : Type 0 where
  pub hunks : List Hunk
  pub written : text ≡ flat_map hunk_text hunks
  pub patches : Patches 0 0 0 hunks old new
  pub context : All (HasContext (length old)) hunks

-- how far a hunk goes that ends with the context behind a place, where the texts have the same lines up to another one
abbrev pub end_of_context : Place → Place → Place
end_of_context from to = record { old = from.old + min (to.old - from.old) 3; new = from.new + min (to.old - from.old) 3 }

-- hunks are written up to the context behind a place
pub record AreClosed (old new : Text) (text : List ℕ) (from to : Place) : Type 0 where
  pub hunks : List Hunk
  pub written : AreWritten old new text hunks (end_of_context from to)
