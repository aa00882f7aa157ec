use Rattle.std.proofs.Common.{◌≡◌, ◌∙◌, ◌<◌, All, Err, Option, Some, ap, arith, length, slice_get, subst, sym}
use Rattle.std.specs.Prelude.{◌≢◌, IfSome}
use Rattle.std.proofs.lemmas.Result.{err_from_is_err_and}
use Rattle.ssr_syntax_kinds.specs.declared.reach.Reach.{Reach}
use Rattle.ssr_syntax_tree.specs.Syntax.{Syntax, source_of}
use Rattle.ssr_syntax.specs.Reading.{file_reading_of}
use Rattle.ssr_syntax.specs.declared.syntax_error.SyntaxError.TheVariants as syntax_errors
use Rattle.ssr_base_trees.specs.Changes.{FitsText}
use Rattle.ssr_base_trees.specs.Workspace.{Workspace}
use Rattle.ssr_base_trees.proofs.Shared.{file_there, none_there}
use Rattle.ssr_standing.specs.Standing.{changed_text}
use Rattle.ide_ssr_edited.proofs.Telling.{by_test, no_memory, unread}
use Rattle.ide_ssr_edited.proofs.edited.edited_tree.Goals as goal

pub returns-in_default : goal.returns-in_default
returns-in_default c =
    let w : Workspace = c.workspace-workspace.result.now in
    let low : c.args.file.0 < length w.files = omega (arith, c.file_count.ensures.count, c.if-file-file_count.false) in
    absurd (none_there w c.args.file.0 low c.in_default.ensures)

pub read_with-requires : goal.read_with-requires
read_with-requires c =
    let w : Workspace = c.workspace-workspace.result.now in
    let low : c.args.file.0 < length w.files = omega (arith, c.file_count.ensures.count, c.if-file-file_count.false) in
    let here : slice_get c.args.kept.now.workspace.files c.args.file.0 ≡ Some c.in-Some.tree.now =
    ap (λ (w : Workspace). slice_get w.files c.args.file.0) (sym c.workspace-workspace.ensures) ∙ file_there w c.args.file.0 c.in-Some.tree.now low c.in-Some.ensures in
    subst (λ (o : Option Syntax). IfSome o (λ tree. All (FitsText (source_of tree)) c.args.edit.now)) here c.requires.fits

pub returns-in_err-new : goal.returns-in_err-new
returns-in_err-new c =
    let w : Workspace = c.workspace-workspace.result.now in
    let low : c.args.file.0 < length w.files = omega (arith, c.file_count.ensures.count, c.if-file-file_count.false) in
    let here : slice_get c.args.kept.now.workspace.files c.args.file.0 ≡ Some c.in-Some.tree.now =
    ap (λ (w : Workspace). slice_get w.files c.args.file.0) (sym c.workspace-workspace.ensures) ∙ file_there w c.args.file.0 c.in-Some.tree.now low c.in-Some.ensures in
    let same : c.reach.result ≡ c.args.kept.now.workspace.reach = c.reach.ensures ∙ ap (λ (w : Workspace). w.reach) c.workspace-workspace.ensures in
    let refused = subst (λ (reach : Reach). c.in_err-new.field-0.0 ≢ syntax_errors.Memory
    → file_reading_of reach (changed_text c.in-Some.tree.now c.args.edit.now) ≡ Err c.in_err-new.field-0.0) same c.in_err-new.ensures in
    let p = err_from_is_err_and c.from_residual.result c.from_residual.ensures.1 in
    unread c.args.kept.now c.args.lists.now c.args.rules.now c.args.file.0 c.args.edit.now c.in-Some.tree.now here c.in_err-new.field-0.0 c.from_residual.result
    refused (p.1 ∙ ap Err p.2)

pub returns-in_err-is_expected : goal.returns-in_err-is_expected
returns-in_err-is_expected c =
    let w : Workspace = c.workspace-workspace.result.now in
    let low : c.args.file.0 < length w.files = omega (arith, c.file_count.ensures.count, c.if-file-file_count.false) in
    let here : slice_get c.args.kept.now.workspace.files c.args.file.0 ≡ Some c.in-Some.tree.now =
    ap (λ (w : Workspace). slice_get w.files c.args.file.0) (sym c.workspace-workspace.ensures) ∙ file_there w c.args.file.0 c.in-Some.tree.now low c.in-Some.ensures in
    let p = err_from_is_err_and c.from_residual-in_err-is_expected.result c.from_residual-in_err-is_expected.ensures.1 in
    no_memory c.args.kept.now c.args.lists.now c.args.rules.now c.args.file.0 c.args.edit.now c.in-Some.tree.now here c.from_residual-in_err-is_expected.result
    (p.1 ∙ ap Err p.2)

pub returns : goal.returns
returns c =
    let w : Workspace = c.workspace-workspace.result.now in
    let low : c.args.file.0 < length w.files = omega (arith, c.file_count.ensures.count, c.if-file-file_count.false) in
    let here : slice_get c.args.kept.now.workspace.files c.args.file.0 ≡ Some c.in-Some.tree.now =
    ap (λ (w : Workspace). slice_get w.files c.args.file.0) (sym c.workspace-workspace.ensures) ∙ file_there w c.args.file.0 c.in-Some.tree.now low c.in-Some.ensures in
    let same : c.reach.result ≡ c.args.kept.now.workspace.reach = c.reach.ensures ∙ ap (λ (w : Workspace). w.reach) c.workspace-workspace.ensures in
    let read = ap (λ (reach : Reach). file_reading_of reach (changed_text c.in-Some.tree.now c.args.edit.now)) (sym same) ∙ c.in_ok-new.ensures in
    by_test c.args.kept.now c.args.lists.now c.args.rules.now c.args.file.0 c.args.edit.now c.in-Some.tree.now here c.in_ok-new.new c.answered.result
    c.in_ok-is_expected.is_expected read c.in_ok-is_expected.ensures c.answered.ensures.expected c.answered.ensures.other
