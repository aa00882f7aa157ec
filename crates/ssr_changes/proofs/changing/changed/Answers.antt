use Rattle.std.proofs.Common.{◌≡◌, List, ℕ, All, Some, length, slice_get, refl, subst, sym, ap, ◌∙◌}
use Rattle.std.specs.Prelude.{not}
use Rattle.std.proofs.lemmas.List.Elements.{All-filter}
use Rattle.std.proofs.lemmas.Option.{slice_get_within}
use Rattle.ssr_syntax_tree.specs.Syntax.{Syntax, source_of}
use Rattle.ssr_base_trees.specs.Changes.{FitsText, replaced}
use Rattle.ssr_base_trees.specs.Workspace.{Workspace, tree_of}
use Rattle.ssr_set_aside.specs.Sparing.{spared, told, touches_aside}
use Rattle.ssr_changes.specs.declared.changing.FileChange.{FileChange}
use Rattle.ssr_standing.specs.Expansions.{stands_in}
use Rattle.ssr_standing.specs.Near.{stands_by}
use Rattle.ssr_changes.proofs.FileLists.{none_there, tree_there}
use Rattle.ssr_changes.proofs.InFiles.{change_is, fits_in}
use Rattle.ssr_changes.proofs.Standings.{fits_standing}
use Rattle.ssr_changes.proofs.changing.changed.Goals as goal

pub unreachable-requires : goal.unreachable-requires
unreachable-requires c =
    let space = c.args.files.now.workspace in
    let n = c.args.file in
    none_there space n (slice_get_within space.files n c.requires.fits.0 c.requires.fits.1)
    (c.in_default.ensures ∙ ap (λ (w : Workspace). tree_of w n) c.workspace-workspace.ensures.workspace)

-- the file's tree is there
pub invariant_of-searched : goal.invariant_of-searched
invariant_of-searched c =
    let space = c.args.files.now.workspace in
    let n = c.args.file in
    let tree = c.in-Some.tree.now in
    let same : c.trees.result.now ≡ space = c.trees.ensures.same ∙ c.workspace-workspace.ensures.workspace in
    let less = slice_get_within space.files n c.requires.fits.0 c.requires.fits.1 in
    let here : slice_get space.files n ≡ Some tree =
    tree_there space n tree less (c.in-Some.ensures ∙ ap (λ (w : Workspace). tree_of w n) c.workspace-workspace.ensures.workspace) in
    record { there = subst (λ (w : Workspace). slice_get w.files n ≡ Some tree) (sym same) here }

pub standing-requires : goal.standing-requires
standing-requires c =
    let space = c.args.files.now.workspace in
    let n = c.args.file in
    let tree = c.in-Some.tree.now in
    let less = slice_get_within space.files n c.requires.fits.0 c.requires.fits.1 in
    let here : slice_get space.files n ≡ Some tree =
    tree_there space n tree less (c.in-Some.ensures ∙ ap (λ (w : Workspace). tree_of w n) c.workspace-workspace.ensures.workspace) in
    let same : c.requires.fits.0 ≡ tree = cc (sym c.requires.fits.1 ∙ here) in
    let fit : All (FitsText (source_of tree)) c.args.edit = subst (λ (t : Syntax). All (FitsText (source_of t)) c.args.edit) same c.requires.fits.2 in
    subst (All (FitsText (source_of tree))) (sym c.in_ok-edit.ensures.edit)
    (All-filter (λ d. not (touches_aside c.reaches.result.now d)) (FitsText (source_of tree)) c.args.edit fit)

-- what touches no reach fits the file's text, and so does what stands of it
pub unreachable-requires-in-Err-Range : goal.unreachable-requires-in-Err-Range
unreachable-requires-in-Err-Range c =
    let there = c.file-there.result.now in
    let left = c.in_ok-edit.field-0.edit in
    let fit : All (FitsText there.text) left =
    c.in_ok-edit.ensures.fits there.text (record { tree = c.requires.fits.0; aside = there.aside; reaches = there.reaches; unsearched = there.unsearched }) (sym c.reaches.ensures)
    (c.file-there.ensures.searched c.requires.fits.0 c.requires.fits.1) c.requires.fits.2 in
    let made : All (FitsText there.text) c.in_ok-edit-2.field-0.edit =
    subst (All (FitsText there.text)) (sym c.in_ok-edit-2.ensures.made) (fits_standing (stands_in c.trees.result.now c.args.file) (stands_by c.trees.result.now c.args.file) left there.text fit) in
    (rw c.in-Err-Range.field-0-is at c.in-Err-Range.ensures).answer (subst (λ (text : List ℕ). All (FitsText text) c.in_ok-edit-2.field-0.edit) (sym c.text.ensures) made)

pub returns-clause-change : goal.returns-clause-change
returns-clause-change c =
    let space = c.args.files.now.workspace in
    let n = c.args.file in
    let there = c.file-there.result.now in
    let all : FileChange =
    record { file = n; edit = c.in_ok-edit-2.field-0.edit; new = c.in-Ok.new; told = c.in_ok-edit.field-0.told; unread = c.in_ok-edit-2.field-0.unread } in (
      there,
      c.file-there.ensures.there,
      change_is space c.trees.result.now n there c.args.edit c.in_ok-edit.field-0.edit all (c.trees.ensures.same ∙ c.workspace-workspace.ensures.workspace) refl
          (c.in_ok-edit.ensures.edit ∙ ap (λ reaches. spared reaches c.args.edit) c.reaches.ensures) c.in_ok-edit-2.ensures.made
          (c.in-Ok.ensures.text ∙ ap (λ (text : List ℕ). replaced text 0 (length text) c.in_ok-edit-2.field-0.edit) c.text.ensures)
          (c.in_ok-edit.ensures.told ∙ ap (λ reaches. told reaches c.args.edit) c.reaches.ensures) c.in_ok-edit-2.ensures.unread,
    )

pub returns-clause-fits : goal.returns-clause-fits
returns-clause-fits c =
    let there = c.file-there.result.now in
    let left = c.in_ok-edit.field-0.edit in
    let all : FileChange =
    record { file = c.args.file; edit = c.in_ok-edit-2.field-0.edit; new = c.in-Ok.new; told = c.in_ok-edit.field-0.told; unread = c.in_ok-edit-2.field-0.unread } in
    let fit : All (FitsText there.text) left =
    c.in_ok-edit.ensures.fits there.text (record { tree = c.requires.fits.0; aside = there.aside; reaches = there.reaches; unsearched = there.unsearched }) (sym c.reaches.ensures)
    (c.file-there.ensures.searched c.requires.fits.0 c.requires.fits.1) c.requires.fits.2 in
    fits_in c.args.files.now.files c.args.file there all refl c.file-there.ensures.there
    (subst (All (FitsText there.text)) (sym c.in_ok-edit-2.ensures.made) (fits_standing (stands_in c.trees.result.now c.args.file) (stands_by c.trees.result.now c.args.file) left there.text fit))
