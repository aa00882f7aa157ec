-- What the tree of a file with its edit made is.
use Rattle.std.specs.Prelude.{List, [], Option, unwrap_or, Result, Ok, Err}
use Rattle.std.specs.BTreeMap.{BTreeMap, get}
use Rattle.ssr_syntax_tree.specs.Syntax.{Syntax}
use Rattle.ssr_base_trees.specs.declared.ids.FileId.{FileId}
use Rattle.ssr_base_trees.specs.Changes.{Change}
use Rattle.ide_ssr_nesting.specs.Holding.{Kept}
use Rattle.ide_ssr_nesting.specs.Lists.{Listing}
use Rattle.ide_ssr_rewriting.specs.Edits.{Answers, file_cmp}
use Rattle.ide_ssr_rewriting.specs.Replacements.{writing}
use Rattle.ide_ssr_edited.specs.Edited.{IsEditedTree}
use Rattle.ide_ssr_edited.specs.declared.edited.EditedError.{EditedError}
use Rattle.ide_ssr_edited.specs.declared.edited.EditedError.TheVariants as errors
use Rattle.ide_ssr.specs.Edits.{Edits, HaveTemplates}
use Rattle.ide_ssr.specs.Finder.{Finder}
use Rattle.ide_ssr.specs.Searching.{IsOutcome}

-- the changes of a file, none where it has no edit
abbrev pub changes_in : BTreeMap FileId (List Change) → FileId → List Change
changes_in edits file = unwrap_or (get file_cmp edits file) []

-- The answer for a file whose kept matches have edits. There is one outcome of a search, and one edit of each file, as the laws
-- `searching` and `editing` say.
abbrev pub IsOfEdits : Finder → FileId → Result (Option Syntax) EditedError → Type 0
IsOfEdits finder file result =
    (kept : Kept)
    × (lists : Listing)
    × (edits : BTreeMap FileId (List Change))
    × HaveTemplates finder.rules
    × IsOutcome finder kept lists
    × Answers kept lists (writing finder.meanings finder.rules) (Ok edits)
    × IsEditedTree kept lists finder.rules file.0 (changes_in edits file) result

-- that the edits are refused is told before all else
abbrev pub EditsTree : Finder → FileId → Result (Option Syntax) EditedError → Type 0
EditsTree finder file (Err (errors.Edit error)) = Edits finder (Err error)
EditsTree finder file (Err (errors.Syntax error)) = IsOfEdits finder file (Err (errors.Syntax error))
EditsTree finder file (Err errors.Differs) = IsOfEdits finder file (Err errors.Differs)
EditsTree finder file (Ok tree) = IsOfEdits finder file (Ok tree)
