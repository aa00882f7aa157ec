-- The tree of a file with its edit made.
use Rattle.std.specs.Prelude.{ℕ, ◌≡◌, ◌≢◌, List, Option, Some, None, Result, Ok, Err, slice_get}
use Rattle.std.specs.Option.{IsSomeAnd}
use Rattle.ssr_syntax_tree.specs.Syntax.{Syntax}
use Rattle.ssr_syntax.specs.Reading.{file_reading_of}
use Rattle.ssr_syntax.specs.declared.syntax_error.SyntaxError.TheVariants as syntax_errors
use Rattle.ssr_base_trees.specs.Changes.{Change}
use Rattle.ssr_standing.specs.Standing.{changed_text}
use Rattle.ssr_swaps.specs.Swapped.{AreAlike}
use Rattle.ide_ssr_resolved_rule.specs.Resolved.{ResolvedRule}
use Rattle.ide_ssr_nesting.specs.Holding.{Kept}
use Rattle.ide_ssr_nesting.specs.Lists.{Listing}
use Rattle.ide_ssr_edited.specs.Expected.{expected}
use Rattle.ide_ssr_edited.specs.declared.edited.EditedError.{EditedError}
use Rattle.ide_ssr_edited.specs.declared.edited.EditedError.TheVariants as errors

-- a tree is the expected one, white space and comments aside
abbrev pub IsExpected : Option Syntax → Syntax → Type 0
IsExpected None tree = ⊥
IsExpected (Some want) tree = AreAlike want tree

-- The answer for a file with these changes made, of which the tree is told exactly where it is the expected one. Want of memory may be
-- told in place of each answer; that the edits are refused is told before.
abbrev pub IsEditedTree : Kept → Listing → List ResolvedRule → ℕ → List Change → Result (Option Syntax) EditedError → Type 0
IsEditedTree kept lists rules file cs (Ok None) = slice_get kept.workspace.files file ≡ None
IsEditedTree kept lists rules file cs (Ok (Some new)) =
    IsSomeAnd (slice_get kept.workspace.files file) (λ tree. (file_reading_of kept.workspace.reach (changed_text tree cs) ≡ Ok new) × IsExpected (expected kept lists rules file tree cs) new)
IsEditedTree kept lists rules file cs (Err errors.Differs) =
    IsSomeAnd (slice_get kept.workspace.files file)
    (λ tree. (new : Syntax) × (file_reading_of kept.workspace.reach (changed_text tree cs) ≡ Ok new) × (IsExpected (expected kept lists rules file tree cs) new → ⊥))
IsEditedTree kept lists rules file cs (Err (errors.Syntax error)) =
    IsSomeAnd (slice_get kept.workspace.files file) (λ tree. error ≢ syntax_errors.Memory → file_reading_of kept.workspace.reach (changed_text tree cs) ≡ Err error)
IsEditedTree kept lists rules file cs (Err (errors.Edit error)) = ⊥
