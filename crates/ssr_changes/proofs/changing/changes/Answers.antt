use Rattle.std.proofs.Common.{subst}
use Rattle.std.proofs.lemmas.Result.{err_from_is_err_and}
use Rattle.ssr_base_trees.specs.Workspace.{Workspace}
use Rattle.ide_ssr_rewriting.specs.Edits.{EditsFit}
use Rattle.ssr_changes.proofs.InFiles.{are_changes, why_in}
use Rattle.ssr_changes.proofs.changing.changes.Goals as goal

pub returns-in_err-edits-clause-refused : goal.returns-in_err-edits-clause-refused
returns-in_err-edits-clause-refused g c =
    let p = err_from_is_err_and c.from_residual.result c.from_residual.ensures.1 in
    rw (p.1, p.2) (why_in _ _ _ _ _ _ c.in_err-edits.field-0.0 c.workspace.ensures.workspace c.in_err-edits.ensures.answer)

pub all_changed-requires : goal.all_changed-requires
all_changed-requires g c = subst (λ (w : Workspace). EditsFit w c.in_ok-edits.edits) c.workspace.ensures.workspace c.in_ok-edits.ensures.fits

pub returns-clause-changes : goal.returns-clause-changes
returns-clause-changes g c =
    are_changes _ _ _ _ _ _ _ c.in_ok-edits.edits _ c.workspace.ensures.workspace c.in_ok-edits.ensures.answer c.in_ok-all_changed.ensures.changes
