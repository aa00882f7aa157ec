-- A finder's search comes to one outcome, so it has one edit for each file.
use Rattle.std.proofs.Common.{◌≡◌, List, [], Contains, Ok, sym, ap, ◌∙◌, subst, arith}
use Rattle.std.specs.Prelude.{Err}
use Rattle.std.specs.BTreeMap.{BTreeMap}
use Rattle.ssr_base_trees.specs.declared.ids.FileId.{FileId}
use Rattle.ssr_base_trees.specs.declared.ids.FileRange.{FileRange}
use Rattle.ssr_base_trees.specs.Changes.{Change}
use Rattle.ssr_base_trees.specs.Built.{IsBuilt}
use Rattle.ssr_base_trees.specs.Workspace.{Workspace, trees}
use Rattle.ide_ssr_bindings.specs.Found.{FoundMatch}
use Rattle.ide_ssr_nesting.specs.Holding.{Kept}
use Rattle.ide_ssr_nesting.specs.Lists.{Listing, AreLists}
use Rattle.ide_ssr_rewriting.specs.declared.editing.EditError.TheVariants as errors
use Rattle.ide_ssr_rewriting.specs.Clashes.{clash_of}
use Rattle.ide_ssr_rewriting.specs.Edits.{Answers}
use Rattle.ide_ssr_rewriting.specs.Replacements.{writing}
use Rattle.ide_ssr_rewriting.proofs.Shared.{edits_or_clash, one_clash, one_edit, no_clash}
use Rattle.ide_ssr_search.proofs.Shared.{are_matches, one_list}
use Rattle.ide_ssr.specs.Finder.{Finder}
use Rattle.ide_ssr.specs.Edits.{Edits}
use Rattle.ide_ssr.specs.Laws.{OneOutcome, OneEdit}
use Rattle.ide_ssr.specs.Searching.{IsOutcome}
use Rattle.ide_ssr_nesting.proofs.Shared.{one_kept, one_holding, one_listing}

pub one_outcome : (finder : Finder) → OneOutcome finder
one_outcome finder a b s t one other =
    let w = finder.workspace in
    let same : one.found ≡ other.found = one_list w finder.meanings finder.context finder.rules one.found other.found one.are_found other.are_found in
    let workspaces : a.workspace ≡ b.workspace = one.workspace ∙ sym other.workspace in
    let matches : a.matches ≡ b.matches =
    one_kept (trees w) (subst IsBuilt one.workspace one.is_kept.built).grown one.found other.found a.matches b.matches (are_matches w finder.meanings finder.context finder.rules one.found one.are_found)
    (λ m. (subst (λ (ms : List FoundMatch). Contains ms m) same, subst (λ (ms : List FoundMatch). Contains ms m) (sym same))) one.are_kept other.are_kept in
    let kept : a ≡ b = one_holding a b one.is_kept other.is_kept workspaces matches in
    (kept, one_listing b s t (subst (λ (kept : Kept). AreLists kept s) kept one.are_lists) other.are_lists)

-- the answer to one outcome is that to the other
answers_again : (finder : Finder) (a b : Kept) (s t : Listing) → IsOutcome finder a s → IsOutcome finder b t
    → (P : Kept → Listing → Type 0) → P b t → P a s
answers_again finder a b s t one other P known =
    let same = one_outcome finder a b s t one other in
    subst (λ (kept : Kept). P kept s) (sym same.0) (subst (P b) (sym same.1) known)

pub one_edit_each : (finder : Finder) → OneEdit finder
one_edit_each finder a b first again =
    let one = first.1 in
    let other = again.1 in
    one_edit one.0 one.1 (writing finder.meanings finder.rules) one.2.is_kept one.2.are_lists a b one.3
    (answers_again finder one.0 other.0 one.1 other.1 one.2 other.2 (λ kept lists. Answers kept lists (writing finder.meanings finder.rules) (Ok b)) other.3)

-- two answers with a clash have the same one
abbrev pub OneClash : Finder → Type 0
OneClash finder =
    (a b c d : FileRange) → Edits finder (Err (errors.Clash a b)) → Edits finder (Err (errors.Clash c d)) → clash_of (a, b) ≡ clash_of (c, d)

pub one_clash_each : (finder : Finder) → OneClash finder
one_clash_each finder a b c d first again =
    let one = first.1 in
    let other = again.1 in
    one_clash one.0 one.1 (writing finder.meanings finder.rules) one.2.is_kept one.2.are_lists a b c d one.3
    (answers_again finder one.0 other.0 one.1 other.1 one.2 other.2 (λ kept lists. Answers kept lists (writing finder.meanings finder.rules) (Err (errors.Clash c d))) other.3)

-- where there are edits, no clash is told
abbrev pub EditsOrClash : Finder → Type 0
EditsOrClash finder =
    (edits : BTreeMap FileId (List Change)) (earlier later : FileRange) → Edits finder (Ok edits) → Edits finder (Err (errors.Clash earlier later)) → ⊥

pub edits_or_clash_each : (finder : Finder) → EditsOrClash finder
edits_or_clash_each finder edits earlier later first again =
    let one = first.1 in
    let other = again.1 in
    edits_or_clash one.0 one.1 (writing finder.meanings finder.rules) one.2.is_kept one.2.are_lists edits earlier later one.3
    (answers_again finder one.0 other.0 one.1 other.1 one.2 other.2 (λ kept lists. Answers kept lists (writing finder.meanings finder.rules) (Err (errors.Clash earlier later))) other.3)

-- where no macro call stands for anything, no clash is told
abbrev pub NoClashWithoutExpansions : Finder → Type 0
NoClashWithoutExpansions finder =
    finder.workspace.expansions ≡ [] → (earlier later : FileRange) → Edits finder (Err (errors.Clash earlier later)) → ⊥

pub none_clash : (finder : Finder) → NoClashWithoutExpansions finder
none_clash finder without earlier later told =
    let one = told.1 in
    let answers = one.3 in
    let none = no_clash one.0 one.1 one.2.is_kept one.2.are_lists (ap (λ (w : Workspace). w.expansions) one.2.workspace ∙ without) answers.0 in
    let at = subst (λ cs. Contains cs (clash_of (earlier, later))) none answers.2.0 in
    omega (arith, at.1)
