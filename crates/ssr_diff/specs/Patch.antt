-- Unified diffs: what they make of a text, and how they are written.
use Rattle.std.specs.Prelude.{ℕ, ◌≡◌, ◌↔◌, ◌+◌, ◌-◌, ◌<◌, ◌≤◌, ◌==◌, if◌then◌else◌, List, [], ◌∷◌, ◌++◌, length, map, flat_map, slice_index, codes, decimal, All}
use Rattle.std.specs.List.{list_any}
use Rattle.ssr_diff.specs.Names.{quoted}

-- a byte that isn't a line break, in front of the first line
abbrev pub with_front : ℕ → List (List ℕ) → List (List ℕ)
with_front b [] = (b ∷ []) ∷ []
with_front b (line ∷ lines) = (b ∷ line) ∷ lines

-- the lines of a text, each with its line break; the last one may have none
abbrev pub lines_of : List ℕ → List (List ℕ)
lines_of [] = []
lines_of (b ∷ bs) = if b == 10 then (b ∷ []) ∷ lines_of bs else with_front b (lines_of bs)

-- a line of a hunk: both texts have it, or the old one alone, or the new one alone
pub data Line : Type 0 where
  Kept : (text : List ℕ) → Line
  Removed : (text : List ℕ) → Line
  Added : (text : List ℕ) → Line

-- the lines that the old text has
abbrev pub old_lines : List Line → List (List ℕ)
old_lines [] = []
old_lines (Kept text ∷ lines) = text ∷ old_lines lines
old_lines (Removed text ∷ lines) = text ∷ old_lines lines
old_lines (Added text ∷ lines) = old_lines lines

-- the lines that the new text has
abbrev pub new_lines : List Line → List (List ℕ)
new_lines [] = []
new_lines (Kept text ∷ lines) = text ∷ new_lines lines
new_lines (Removed text ∷ lines) = new_lines lines
new_lines (Added text ∷ lines) = text ∷ new_lines lines

-- lines that stand together, and how many lines stand before them in the old text and in the new one
pub record Hunk : Type 0 where
  pub old_before : ℕ
  pub new_before : ℕ
  pub lines : List Line

-- how many lines stand in a text up to the hunk's end
abbrev pub old_end : Hunk → ℕ
old_end h = h.old_before + length (old_lines h.lines)

abbrev pub new_end : Hunk → ℕ
new_end h = h.new_before + length (new_lines h.lines)

-- The hunks make `new` of `old`, which stand behind so many lines of two texts: what stands before, between and behind the hunks is
-- kept. At least `least` lines are kept before the first hunk, and at least one between two hunks.
pub data Patches : ℕ → ℕ → ℕ → List Hunk → List (List ℕ) → List (List ℕ) → Type 0 where
  same : (least old_before new_before : ℕ) (kept : List (List ℕ)) → Patches least old_before new_before [] kept kept
  next : (least old_before new_before : ℕ) (kept old new : List (List ℕ)) (h : Hunk) (hs : List Hunk)
      → least ≤ length kept → old_before + length kept ≡ h.old_before → new_before + length kept ≡ h.new_before
      → Patches 1 (old_end h) (new_end h) hs old new
      → Patches least old_before new_before (h ∷ hs) (kept ++ (old_lines h.lines ++ old)) (kept ++ (new_lines h.lines ++ new))

abbrev pub IsChange : Line → Type 0
IsChange (Kept text) = ⊥
IsChange (Removed text) = Unit {0}
IsChange (Added text) = Unit {0}

pub record BeginsWithChange (lines : List Line) : Type 0 where
  pub change : Line
  pub rest : List Line
  pub is_change : IsChange change
  pub is : lines ≡ change ∷ rest

pub record EndsWithChange (lines : List Line) : Type 0 where
  pub front : List Line
  pub change : Line
  pub is_change : IsChange change
  pub is : lines ≡ front ++ change ∷ []

-- three kept lines, or fewer where the text ends
abbrev pub IsContext : List (List ℕ) → Type 0 → Type 0
IsContext kept at_end = (length kept ≤ 3) × (length kept < 3 → at_end)

-- three lines are kept before a hunk's first change and behind its last one, in an old text of so many lines
pub record HasContext (count : ℕ) (h : Hunk) : Type 0 where
  pub before : List (List ℕ)
  pub changed : List Line
  pub behind : List (List ℕ)
  pub lines : h.lines ≡ map Kept before ++ (changed ++ map Kept behind)
  pub begins : BeginsWithChange changed
  pub ends : EndsWithChange changed
  pub context_before : IsContext before (h.old_before ≡ 0)
  pub context_behind : IsContext behind (old_end h ≡ count)

-- a line behind its sign; a line without a line break gets one, and a remark that it has none
abbrev pub signed_line : List ℕ → List ℕ → List ℕ
signed_line sign line =
    sign ++ (line ++ (if slice_index line (length line - 1) == 10 then [] else codes "\n\\ No newline at end of file\n"))

abbrev pub line_text : Line → List ℕ
line_text (Kept text) = signed_line (codes " ") text
line_text (Removed text) = signed_line (codes "-") text
line_text (Added text) = signed_line (codes "+") text

-- The number of the first line, from 1, and how many lines there are. Where there are none, the number is that of the line before.
abbrev pub span_text : ℕ → ℕ → List ℕ
span_text before count = decimal (if count == 0 then before else before + 1) ++ (codes "," ++ decimal count)

abbrev pub hunk_head : Hunk → List ℕ
hunk_head h =
    codes "@@ -" ++ (span_text h.old_before (length (old_lines h.lines))
    ++ (codes " +" ++ (span_text h.new_before (length (new_lines h.lines)) ++ codes " @@\n")))

abbrev pub hunk_text : Hunk → List ℕ
hunk_text h = hunk_head h ++ flat_map line_text h.lines

-- a tab behind a name that has a blank, which would else end it
abbrev pub name_end : List ℕ → List ℕ
name_end name = if list_any (λ b. b == 32) name then codes "\t\n" else codes "\n"

abbrev pub file_head : List ℕ → List ℕ
file_head name =
    codes "--- " ++ (quoted (codes "a/" ++ name) ++ (name_end name ++ (codes "+++ " ++ (quoted (codes "b/" ++ name) ++ name_end name))))

-- the diff of these hunks of a file: nothing where there are none
abbrev pub diff_text : List ℕ → List Hunk → List ℕ
diff_text name [] = []
diff_text name (h ∷ hs) = file_head name ++ flat_map hunk_text (h ∷ hs)

-- The diff of a file's old and new text: its hunks make the new lines of the old ones, each with its context. It is empty where the
-- texts are the same, and only there.
pub record IsDiff (name old new diff : List ℕ) : Type 0 where
  pub hunks : List Hunk
  pub written : diff ≡ diff_text name hunks
  pub patches : Patches 0 0 0 hunks (lines_of old) (lines_of new)
  pub context : All (HasContext (length (lines_of old))) hunks
  pub empty : (diff ≡ []) ↔ (old ≡ new)
