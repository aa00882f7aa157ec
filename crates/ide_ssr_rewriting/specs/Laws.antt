-- What holds of the edits of kept matches: the words of their laws.
use Rattle.std.specs.Prelude.{ℕ, ◌≡◌, ◌⊎◌, List, Some, slice_get, Ok, Err}
use Rattle.std.specs.BTreeMap.{BTreeMap, get}
use Rattle.ssr_base_trees.specs.declared.ids.FileId.{FileId}
use Rattle.ssr_base_trees.specs.declared.ids.FileRange.{FileRange}
use Rattle.ssr_base_trees.specs.Changes.{Change}
use Rattle.ide_ssr_bindings.specs.Found.{FoundMatch}
use Rattle.ide_ssr_nesting.specs.Holding.{Kept}
use Rattle.ide_ssr_nesting.specs.Lists.{Listing}
use Rattle.ide_ssr_rewriting.specs.declared.editing.EditError.TheVariants as errors
use Rattle.ide_ssr_rewriting.specs.Replacements.{Writing}
use Rattle.ide_ssr_rewriting.specs.Edits.{Answers, AreTexts, Texts, file_cmp}

-- there are texts that stand for the matches
abbrev pub TextsExist : Kept → Listing → Writing → Type 0
TextsExist kept lists by = (texts : Texts) × AreTexts kept lists by texts

-- there are no two choices of texts that stand for the matches
abbrev pub OneText : Kept → Listing → Writing → Type 0
OneText kept lists by =
    (f g : Texts) → AreTexts kept lists by f → AreTexts kept lists by g → (n : ℕ) (m : FoundMatch) → slice_get kept.matches n ≡ Some m → f n ≡ g n

-- there are edits, or a clash is told
abbrev pub AnswerExists : Kept → Listing → Writing → Type 0
AnswerExists kept lists by =
    ((edits : BTreeMap FileId (List Change)) × Answers kept lists by (Ok edits))
    ⊎ ((earlier : FileRange) × (later : FileRange) × Answers kept lists by (Err (errors.Clash earlier later)))

-- all edits that are answered are the same
abbrev pub OneEdit : Kept → Listing → Writing → Type 0
OneEdit kept lists by =
    (a b : BTreeMap FileId (List Change)) → Answers kept lists by (Ok a) → Answers kept lists by (Ok b) → (file : FileId) → get file_cmp a file ≡ get file_cmp b file

-- where there are edits, no clash is told
abbrev pub EditsOrClash : Kept → Listing → Writing → Type 0
EditsOrClash kept lists by =
    (edits : BTreeMap FileId (List Change)) (earlier later : FileRange) → Answers kept lists by (Ok edits) → Answers kept lists by (Err (errors.Clash earlier later)) → ⊥
