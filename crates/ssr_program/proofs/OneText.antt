-- A workspace of one file.
use Rattle.std.proofs.Common.{◌≡◌, ℕ, ap, ◌∙◌, get_or, All, subst, arith, List, Result, Ok, Err, IfOk, String, Global, string_bytes}
use Rattle.std.specs.Prelude.{Some, slice_get}
use Rattle.std.specs.declared.alloc.AllocError.{AllocError}
use Rattle.std.specs.BTreeMap.{BTreeMap, get}
use Rattle.std.specs.Option.{IsSomeAnd}
use Rattle.ssr_syntax_tree.specs.Syntax.{Syntax, source_of}
use Rattle.ssr_base_trees.specs.declared.ids.FileId.{FileId}
use Rattle.ssr_base_trees.specs.Changes.{Change, FitsText}
use Rattle.ssr_base_trees.specs.Workspace.{Workspace, tree_of}
use Rattle.ssr_base_trees.proofs.Shared.{tree_of_file}
use Rattle.ide_ssr_rewriting.specs.Edits.{EditsFit, file_cmp}
use Rattle.ssr_program.specs.OfFile.{one_file, text_with}
use Rattle.ssr_searching.specs.Searching.{Changes}
use Rattle.ssr_program.specs.Private.Rewriting.{IsNewText}

-- it has one tree
pub one_code : (code other : Syntax) → one_file code ≡ one_file other → code ≡ other
one_code code other is = ap (λ (w : Workspace). get_or w.files 0 code) is

-- the tree of the one file
pub tree_is : (w : Workspace) (code : Syntax) → w ≡ one_file code → tree_of w 0 ≡ Some code
tree_is w code is = ap (λ (w : Workspace). tree_of w 0) is ∙ tree_of_file (one_file code) 0 (omega arith)

-- the changes of its file fit the file's text
pub fit_one : (w : Workspace) (code : Syntax) (edits : BTreeMap FileId (List Change)) (changes : List Change) → w ≡ one_file code → EditsFit w edits
    → get file_cmp edits (record { 0 = 0 }) ≡ Some changes → All (FitsText (source_of code)) changes
fit_one w code edits changes is fits found =
    subst (λ (w : Workspace). IsSomeAnd (slice_get w.files 0) (λ tree. All (FitsText (source_of tree)) changes)) is
    (fits (record { 0 = 0 }) changes found)

-- what is made of its text is its new text
pub new_if : (w : Workspace) (code : Syntax) (new : Changes) (text : List ℕ) → w ≡ one_file code → text ≡ text_with code (new 0)
    → (made : Result (String Global) AllocError) → IfOk made (λ s. string_bytes s ≡ text) → IfOk made (λ s. IsNewText w new (string_bytes s))
new_if w code new text one is (Ok s) made = (code, one, made ∙ is)
new_if w code new text one is (Err e) made = tt
