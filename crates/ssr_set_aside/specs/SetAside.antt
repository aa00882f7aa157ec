-- A text of which parts are set aside.
use Rattle.std.specs.Prelude.{ℕ, ◌≡◌, ◌==◌, ◌||◌, ◌+◌, ◌≤◌, Bool, IsTrue, List, [], ◌∷◌, length, All}
use Rattle.std.specs.List.{list_all}
use Rattle.ssr_base_trees.specs.Changes.{Change, ChangesInOrder, FitsText, IsReplaced}
use Rattle.ssr_base_trees.specs.Origins.{Span}
use Rattle.ssr_syntax_kinds.specs.declared.reach.Reach.TheVariants.{Whole}
use Rattle.ssr_syntax_tree.specs.Syntax.{Syntax, source_of}
use Rattle.ssr_syntax.specs.Reading as reading
use Rattle.ssr_set_aside.specs.Parts.{AreParts}

-- the tree of the text that is searched, the changes of a file's text that made that text, of each the bytes that no match may
-- touch, and the bytes of which nothing is searched
pub record SetAside : Type 0 where
  pub tree : Syntax
  pub aside : List Change
  pub reaches : List Span
  pub unsearched : List Span

-- a change's text has as many bytes as its range
abbrev pub KeepsLength : Change → Type 0
KeepsLength c = c.start + length c.text ≡ c.end

-- the bytes of a change are among these
abbrev pub Covers : Span → Change → Type 0
Covers reach c = (reach.start ≤ c.start) × (c.end ≤ reach.end)

-- each change has its reach
abbrev pub AreCovered : List Change → List Span → Type 0
AreCovered [] [] = Unit {0}
AreCovered [] (reach ∷ reaches) = ⊥
AreCovered (c ∷ cs) [] = ⊥
AreCovered (c ∷ cs) (reach ∷ reaches) = Covers reach c × AreCovered cs reaches

-- spans by where they begin, none before `from`
abbrev pub BeginInOrder : ℕ → List Span → Type 0
BeginInOrder from [] = Unit {0}
BeginInOrder from (span ∷ spans) = (from ≤ span.start) × BeginInOrder span.start spans

-- a blank or a line break
abbrev pub is_blank : ℕ → Bool
is_blank b = b == 32 || b == 10

-- a change replaces these bytes, by blanks and line breaks alone
pub record IsBlanked (span : Span) (c : Change) : Type 0 where
  pub start : span.start ≡ c.start
  pub end : span.end ≡ c.end
  pub blank : IsTrue (list_all is_blank c.text)

-- spans, each of which one of the changes replaces so, in the same order
pub data AreBlanked : List Change → List Span → Type 0 where
  none : AreBlanked [] []
  other : (c : Change) (cs : List Change) (spans : List Span) → AreBlanked cs spans → AreBlanked (c ∷ cs) spans
  one : (c : Change) (cs : List Change) (span : Span) (spans : List Span) → IsBlanked span c → AreBlanked cs spans → AreBlanked (c ∷ cs) (span ∷ spans)

-- The searched text is the file's with changes made, which keep the place of each byte outside of them, and begin and end between
-- two characters. Each has its reach. What is told as not searched is replaced by blanks. Each is a part that may go.
pub record IsSetAside (text : List ℕ) (made : SetAside) : Type 0 where
  pub order : ChangesInOrder 0 made.aside
  pub fits : All (FitsText text) made.aside
  pub lengths : All KeepsLength made.aside
  pub replaced : IsReplaced 0 text made.aside (source_of made.tree)
  pub covered : AreCovered made.aside made.reaches
  pub blanks : AreBlanked made.aside made.unsearched
  pub parts : AreParts text made.aside made.unsearched

-- the tree is what is read of its text
abbrev pub IsRead : SetAside → Type 0
IsRead made = reading.IsReadOf Whole made.tree
