-- The tree of a file with its edit made is that of the edit of the finder's matches.
use Rattle.std.proofs.Common.{◌≡◌, List, [], All, Option, Some, None, Result, Ok, Err, subst, sym}
use Rattle.std.specs.Prelude.{IfSome, slice_get}
use Rattle.std.specs.BTreeMap.{BTreeMap, get}
use Rattle.std.specs.Option.{IsSomeAnd}
use Rattle.ssr_syntax_tree.specs.Syntax.{Syntax, source_of}
use Rattle.ssr_base_trees.specs.declared.ids.FileId.{FileId}
use Rattle.ssr_base_trees.specs.Changes.{Change, FitsText}
use Rattle.ssr_base_trees.specs.Workspace.{Workspace}
use Rattle.ide_ssr_resolved_rule.specs.Resolved.{ResolvedRule}
use Rattle.ide_ssr_nesting.specs.Holding.{Kept}
use Rattle.ide_ssr_nesting.specs.Lists.{Listing}
use Rattle.ide_ssr_rewriting.specs.Edits.{Answers, EditsFit, file_cmp}
use Rattle.ide_ssr_rewriting.specs.Replacements.{writing}
use Rattle.ide_ssr_edited.specs.Edited.{IsEditedTree}
use Rattle.ide_ssr_edited.specs.declared.edited.EditedError.{EditedError}
use Rattle.ide_ssr_edited.specs.declared.edited.EditedError.TheVariants as errors
use Rattle.ide_ssr.specs.EditedTree.{EditsTree, changes_in}
use Rattle.ide_ssr.specs.Edits.{HaveTemplates}
use Rattle.ide_ssr.specs.Finder.{Finder}
use Rattle.ide_ssr.specs.Searching.{IsOutcome}

if_there : (o : Option Syntax) (P : Syntax → Type 0) → IsSomeAnd o P → IfSome o P
if_there None P h = tt
if_there (Some tree) P h = h

-- the changes of a file fit its text
pub fits_file : (w v : Workspace) (edits : BTreeMap FileId (List Change)) (file : FileId) (changes : List Change) → v ≡ w → EditsFit w edits
    → get file_cmp edits file ≡ Some changes → IfSome (slice_get v.files file.0) (λ tree. All (FitsText (source_of tree)) changes)
fits_file w v edits file changes same fit at =
    if_there (slice_get v.files file.0) (λ tree. All (FitsText (source_of tree)) changes)
    (subst (λ (w : Workspace). EditsFit w edits) (sym same) fit file changes at)

told : (finder : Finder) (file : FileId) (kept : Kept) (lists : Listing) (edits : BTreeMap FileId (List Change)) (result : Result (Option Syntax) EditedError)
    → HaveTemplates finder.rules → IsOutcome finder kept lists → Answers kept lists (writing finder.meanings finder.rules) (Ok edits)
    → IsEditedTree kept lists finder.rules file.0 (changes_in edits file) result → EditsTree finder file result
told finder file kept lists edits (Ok tree) have outcome answers is = (kept, lists, edits, have, outcome, answers, is)
told finder file kept lists edits (Err (errors.Syntax error)) have outcome answers is = (kept, lists, edits, have, outcome, answers, is)
told finder file kept lists edits (Err errors.Differs) have outcome answers is = (kept, lists, edits, have, outcome, answers, is)
told finder file kept lists edits (Err (errors.Edit error)) have outcome answers is = absurd is

-- what is answered for the rules and the changes of the finder
pub tree_told : (finder : Finder) (file : FileId) (kept : Kept) (lists : Listing) (edits : BTreeMap FileId (List Change)) (rules : List ResolvedRule) (cs : List Change)
    (result : Result (Option Syntax) EditedError) → rules ≡ finder.rules → cs ≡ changes_in edits file
    → HaveTemplates finder.rules → IsOutcome finder kept lists → Answers kept lists (writing finder.meanings finder.rules) (Ok edits)
    → IsEditedTree kept lists rules file.0 cs result → EditsTree finder file result
tree_told finder file kept lists edits rules cs result same changes have outcome answers is =
    told finder file kept lists edits result have outcome answers
    (subst (λ (rules : List ResolvedRule). IsEditedTree kept lists rules file.0 (changes_in edits file) result) same
    (subst (λ (cs : List Change). IsEditedTree kept lists rules file.0 cs result) changes is))
