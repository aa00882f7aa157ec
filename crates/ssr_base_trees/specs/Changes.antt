-- Changes of a text, and the text with them made.
use Rattle.std.specs.Prelude.{ℕ, ◌≤◌, ◌+◌, ◌≡◌, List, [], ◌∷◌, ◌++◌, length, slice_range}
use Rattle.std.specs.Str.{IsCharBoundary}

-- the bytes from `start` up to before `end` become `text`
pub record Change : Type 0 where
  pub start : ℕ
  pub end : ℕ
  pub text : List ℕ

-- in order, sharing no byte, and none begins before `from`
abbrev pub ChangesInOrder : ℕ → List Change → Type 0
ChangesInOrder from [] = Unit {0}
ChangesInOrder from (c ∷ cs) = (from ≤ c.start) × (c.start ≤ c.end) × ChangesInOrder c.end cs

-- a change begins and ends between two characters of the text
abbrev pub FitsText : List ℕ → Change → Type 0
FitsText text c = IsCharBoundary text c.start × IsCharBoundary text c.end

-- the bytes of a text from one place to another, with the changes between these places made
abbrev pub replaced : List ℕ → ℕ → ℕ → List Change → List ℕ
replaced text from to [] = slice_range text from to
replaced text from to (c ∷ cs) = slice_range text from c.start ++ (c.text ++ replaced text c.end to cs)

-- `after` is `before`, which begins at the place `at` of a text, with the range of each change replaced by
-- its text and each byte outside of these ranges kept
pub data IsReplaced : ℕ → List ℕ → List Change → List ℕ → Type 0 where
  same : (at : ℕ) (kept : List ℕ) → IsReplaced at kept [] kept
  next : (at : ℕ) (kept old behind after : List ℕ) (c : Change) (cs : List Change)
      → at + length kept ≡ c.start → c.start + length old ≡ c.end → IsReplaced c.end behind cs after
      → IsReplaced at (kept ++ (old ++ behind)) (c ∷ cs) (kept ++ (c.text ++ after))
