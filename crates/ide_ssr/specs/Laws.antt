-- The words of laws: that a search comes to one outcome, and that its edits are determined.
use Rattle.std.specs.Prelude.{◌≡◌, ◌⊎◌, List, Ok, Err}
use Rattle.std.specs.BTreeMap.{BTreeMap, get}
use Rattle.ssr_base_trees.specs.declared.ids.FileId.{FileId}
use Rattle.ssr_base_trees.specs.declared.ids.FileRange.{FileRange}
use Rattle.ssr_base_trees.specs.Changes.{Change}
use Rattle.ide_ssr_nesting.specs.Holding.{Kept}
use Rattle.ide_ssr_nesting.specs.Lists.{Listing}
use Rattle.ide_ssr_rewriting.specs.declared.editing.EditError.TheVariants as errors
use Rattle.ide_ssr_rewriting.specs.Edits.{file_cmp}
use Rattle.ide_ssr.specs.Finder.{Finder}
use Rattle.ide_ssr.specs.Searching.{IsOutcome}
use Rattle.ide_ssr.specs.Edits.{HaveTemplates, Edits}

-- a search comes to an outcome
abbrev pub OutcomeExists : Finder → Type 0
OutcomeExists finder = (kept : Kept) × (lists : Listing) × IsOutcome finder kept lists

-- a search comes to no two outcomes
abbrev pub OneOutcome : Finder → Type 0
OneOutcome finder =
    (a b : Kept) (s t : Listing) → IsOutcome finder a s → IsOutcome finder b t → (a ≡ b) × (s ≡ t)

-- where each rule has a template, there are edits, or a clash is told
abbrev pub AnswerExists : Finder → Type 0
AnswerExists finder =
    HaveTemplates finder.rules
    → ((edits : BTreeMap FileId (List Change)) × Edits finder (Ok edits))
    ⊎ ((earlier : FileRange) × (later : FileRange) × Edits finder (Err (errors.Clash earlier later)))

-- two answers with edits have the same edit for each file
abbrev pub OneEdit : Finder → Type 0
OneEdit finder =
    (a b : BTreeMap FileId (List Change)) → Edits finder (Ok a) → Edits finder (Ok b) → (file : FileId) → get file_cmp a file ≡ get file_cmp b file
