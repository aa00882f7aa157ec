-- What is answered of the tree of a file with changes made.
use Rattle.std.proofs.Common.{◌≡◌, Bool, true, false, ℕ, List, Option, Some, Result, Ok, Err, refl, subst, sym}
use Rattle.std.specs.Prelude.{◌≢◌, ◌↔◌, IsTrue, slice_get}
use Rattle.std.specs.Option.{IsSomeAnd}
use Rattle.ssr_syntax_tree.specs.Syntax.{Syntax}
use Rattle.ssr_syntax.specs.Reading.{file_reading_of}
use Rattle.ssr_syntax.specs.declared.syntax_error.SyntaxError.{SyntaxError}
use Rattle.ssr_syntax.specs.declared.syntax_error.SyntaxError.TheVariants as syntax_errors
use Rattle.ssr_base_trees.specs.Changes.{Change}
use Rattle.ssr_standing.specs.Standing.{changed_text}
use Rattle.ide_ssr_resolved_rule.specs.Resolved.{ResolvedRule}
use Rattle.ide_ssr_nesting.specs.Holding.{Kept}
use Rattle.ide_ssr_nesting.specs.Lists.{Listing}
use Rattle.ide_ssr_edited.specs.declared.edited.EditedError.{EditedError}
use Rattle.ide_ssr_edited.specs.declared.edited.EditedError.TheVariants as errors
use Rattle.ide_ssr_edited.specs.Edited.{IsEditedTree, IsExpected}
use Rattle.ide_ssr_edited.specs.Expected.{expected}

module _ (kept : Kept) (lists : Listing) (rules : List ResolvedRule) (file : ℕ) (cs : List Change) (tree : Syntax) (there : slice_get kept.workspace.files file ≡ Some tree) where
  of_it : (P : Syntax → Type 0) → P tree → IsSomeAnd (slice_get kept.workspace.files file) P
  of_it P h = subst (λ (o : Option Syntax). IsSomeAnd o P) (sym there) h

  -- the text isn't read
  pub unread : (error : SyntaxError) (result : Result (Option Syntax) EditedError) → (error ≢ syntax_errors.Memory → file_reading_of kept.workspace.reach (changed_text tree cs) ≡ Err error)
      → result ≡ Err (errors.Syntax error) → IsEditedTree kept lists rules file cs result
  unread error result refused is =
      subst (IsEditedTree kept lists rules file cs) (sym is)
      (of_it (λ tree. error ≢ syntax_errors.Memory → file_reading_of kept.workspace.reach (changed_text tree cs) ≡ Err error) refused)

  -- there is no memory
  pub no_memory : (result : Result (Option Syntax) EditedError) → result ≡ Err (errors.Syntax syntax_errors.Memory) → IsEditedTree kept lists rules file cs result
  no_memory result is = unread syntax_errors.Memory result (λ other. absurd (other refl)) is

  -- the tree is the expected one
  pub as_expected : (new : Syntax) (result : Result (Option Syntax) EditedError) → file_reading_of kept.workspace.reach (changed_text tree cs) ≡ Ok new
      → IsExpected (expected kept lists rules file tree cs) new → result ≡ Ok (Some new) → IsEditedTree kept lists rules file cs result
  as_expected new result read same is =
      subst (IsEditedTree kept lists rules file cs) (sym is)
      (of_it (λ tree. (file_reading_of kept.workspace.reach (changed_text tree cs) ≡ Ok new) × IsExpected (expected kept lists rules file tree cs) new) (read, same))

  -- it is another one
  pub another : (new : Syntax) (result : Result (Option Syntax) EditedError) → file_reading_of kept.workspace.reach (changed_text tree cs) ≡ Ok new
      → (IsExpected (expected kept lists rules file tree cs) new → ⊥) → result ≡ Err errors.Differs → IsEditedTree kept lists rules file cs result
  another new result read other is =
      subst (IsEditedTree kept lists rules file cs) (sym is)
      (of_it (λ tree. (new : Syntax) × (file_reading_of kept.workspace.reach (changed_text tree cs) ≡ Ok new) × (IsExpected (expected kept lists rules file tree cs) new → ⊥)) (new, read, other))

  -- what a test answers that tells the expected tree
  pub by_test : (new : Syntax) (result : Result (Option Syntax) EditedError) (told : Bool) → file_reading_of kept.workspace.reach (changed_text tree cs) ≡ Ok new
      → IsTrue told ↔ IsExpected (expected kept lists rules file tree cs) new → (IsTrue told → result ≡ Ok (Some new)) → (told ≡ false → result ≡ Err errors.Differs)
      → IsEditedTree kept lists rules file cs result
  by_test new result true read tells when otherwise = as_expected new result read (tells.0 refl) (when refl)
  by_test new result false read tells when otherwise = another new result read (λ same. let wrong : false ≡ true = tells.1 same in cc) (otherwise refl)
