use Rattle.std.proofs.Common.{◌≡◌, ◌≢◌, ◌<◌, List, ℕ, All, length, None, Err, option_map, sym, ◌∙◌, ap, subst}
use Rattle.std.specs.Prelude.{AllPairs}
use Rattle.std.specs.BTreeMap.{get}
use Rattle.std.proofs.lemmas.Result.{err_from_is_err_and}
use Rattle.ssr_base_trees.specs.declared.ids.FileId.{FileId}
use Rattle.ssr_base_trees.specs.Laws.{LiesInFile}
use Rattle.ssr_base_trees.specs.Workspace.{Workspace}
use Rattle.ide_ssr_rewriting.specs.Clashes.{clash_of}
use Rattle.ide_ssr_rewriting.specs.Private.Clashes.{AreInOrder}
use Rattle.ide_ssr_rewriting.specs.Edits.{edit_of, file_cmp, list_at}
use Rattle.ide_ssr_rewriting.specs.Replacements.{writing}
use Rattle.ide_ssr_rewriting.specs.Private.Edits.{text_in}
use Rattle.ide_ssr_rewriting.proofs.Pieces.{list_in_order}
use Rattle.ide_ssr_rewriting.proofs.Runs.{first_of_all, edited, clashed, no_memory}
use Rattle.ide_ssr_rewriting.proofs.Answering.{edits_fit, edits_ordered, lie_in_files}
use Rattle.ide_ssr_rewriting.proofs.editing.edits.Goals as goal

pub returns-in_err-pending-clause-answer : goal.returns-in_err-pending-clause-answer
returns-in_err-pending-clause-answer g c =
    let p = err_from_is_err_and c.from_residual.result c.from_residual.ensures.1 in
    no_memory c.args.kept.now c.args.lists.now (writing (g.S.Semantics.meanings c.args.semantics.now) c.args.rules.now) c.run.ensures.nest c.from_residual.result (p.1 ∙ ap Err p.2)

pub take_list-requires-clause-within : goal.take_list-requires-clause-within
take_list-requires-clause-within g c = subst (All (λ n. n < length c.args.kept.now.matches)) (sym c.outermost.ensures) (c.run.ensures.nest.lists None).within

pub take_list-requires-clause-once : goal.take_list-requires-clause-once
take_list-requires-clause-once g c = subst (λ (xs : List ℕ). AllPairs ◌≢◌ xs) (sym c.outermost.ensures) (c.run.ensures.nest.lists None).once

pub take_list-requires-clause-order : goal.take_list-requires-clause-order
take_list-requires-clause-order g c =
    subst (λ (xs : List ℕ). AreInOrder (list_at c.args.kept.now (text_in c.in_ok-pending.pending.texts.items) xs)) (sym c.outermost.ensures)
    (list_in_order c.args.kept.now c.args.lists.now c.run.ensures.nest None (text_in c.in_ok-pending.pending.texts.items))

pub returns-in_err-outermost-clause-answer : goal.returns-in_err-outermost-clause-answer
returns-in_err-outermost-clause-answer g c =
    let p = err_from_is_err_and c.from_residual-in_err-outermost.result c.from_residual-in_err-outermost.ensures.1 in
    no_memory c.args.kept.now c.args.lists.now (writing (g.S.Semantics.meanings c.args.semantics.now) c.args.rules.now) c.run.ensures.nest c.from_residual-in_err-outermost.result (p.1 ∙ ap Err p.2)

pub returns-in-Some-clause-answer : goal.returns-in-Some-clause-answer
returns-in-Some-clause-answer g c =
    clashed c.args.kept.now c.args.lists.now (writing (g.S.Semantics.meanings c.args.semantics.now) c.args.rules.now) c.run.ensures.nest c.in-Some.earlier c.in-Some.later (option_map clash_of c.take_list.new.self.clash)
    (first_of_all c.args.kept.now c.args.lists.now (writing (g.S.Semantics.meanings c.args.semantics.now) c.args.rules.now) c.run.ensures.nest c.in_ok-pending.pending.texts.items (option_map clash_of c.in_ok-pending.pending.clash) (option_map clash_of c.in_ok-outermost.field-0-1)
    (option_map clash_of c.take_list.new.self.clash) c.in_ok-outermost.outermost.items c.in_ok-pending.ensures.run (c.in_ok-outermost.ensures.list ∙ ap (list_at c.args.kept.now (text_in c.in_ok-pending.pending.texts.items)) c.outermost.ensures) c.in_ok-outermost.ensures.first c.in_ok-outermost.ensures.clash)
    (ap (option_map clash_of) c.in-Some.is)

pub file_edits-requires-clause-order : goal.file_edits-requires-clause-order
file_edits-requires-clause-order g c =
    subst AreInOrder (sym (c.in_ok-outermost.ensures.list ∙ ap (list_at c.args.kept.now (text_in c.in_ok-pending.pending.texts.items)) c.outermost.ensures))
    (list_in_order c.args.kept.now c.args.lists.now c.run.ensures.nest None (text_in c.in_ok-pending.pending.texts.items))

pub file_edits-requires-clause-fits : goal.file_edits-requires-clause-fits
file_edits-requires-clause-fits g c =
    subst (λ (w : Workspace). All (λ r. LiesInFile w r.range) c.in_ok-outermost.outermost.items) (sym c.workspace.ensures)
    (subst (All (λ r. LiesInFile c.args.kept.now.workspace r.range)) (sym (c.in_ok-outermost.ensures.list ∙ ap (list_at c.args.kept.now (text_in c.in_ok-pending.pending.texts.items)) c.outermost.ensures))
    (lie_in_files c.args.kept.now c.args.lists.now (text_in c.in_ok-pending.pending.texts.items) c.run.ensures.nest))

pub returns-in_err-file_edits-clause-answer : goal.returns-in_err-file_edits-clause-answer
returns-in_err-file_edits-clause-answer g c =
    let p = err_from_is_err_and c.from_residual-in_err-file_edits.result c.from_residual-in_err-file_edits.ensures.1 in
    no_memory c.args.kept.now c.args.lists.now (writing (g.S.Semantics.meanings c.args.semantics.now) c.args.rules.now) c.run.ensures.nest c.from_residual-in_err-file_edits.result (p.1 ∙ ap Err p.2)

pub returns-clause-answer : goal.returns-clause-answer
returns-clause-answer g c =
    edited c.args.kept.now c.args.lists.now (writing (g.S.Semantics.meanings c.args.semantics.now) c.args.rules.now) c.run.ensures.nest c.in_ok-pending.pending.texts.items (option_map clash_of c.in_ok-pending.pending.clash) (option_map clash_of c.take_list.new.self.clash)
    c.in_ok-outermost.outermost.items c.in_ok-file_edits.field-0 c.in_ok-pending.ensures.run (c.in_ok-outermost.ensures.list ∙ ap (list_at c.args.kept.now (text_in c.in_ok-pending.pending.texts.items)) c.outermost.ensures)
    (first_of_all c.args.kept.now c.args.lists.now (writing (g.S.Semantics.meanings c.args.semantics.now) c.args.rules.now) c.run.ensures.nest c.in_ok-pending.pending.texts.items (option_map clash_of c.in_ok-pending.pending.clash) (option_map clash_of c.in_ok-outermost.field-0-1)
    (option_map clash_of c.take_list.new.self.clash) c.in_ok-outermost.outermost.items c.in_ok-pending.ensures.run (c.in_ok-outermost.ensures.list ∙ ap (list_at c.args.kept.now (text_in c.in_ok-pending.pending.texts.items)) c.outermost.ensures) c.in_ok-outermost.ensures.first c.in_ok-outermost.ensures.clash)
    (ap (option_map clash_of) c.in_default.is)
    (subst (λ (w : Workspace). (file : FileId) → get file_cmp c.in_ok-file_edits.field-0 file ≡ edit_of w file.0 c.in_ok-outermost.outermost.items) c.workspace.ensures c.in_ok-file_edits.ensures)

pub returns-clause-fits : goal.returns-clause-fits
returns-clause-fits g c = edits_fit c.args.kept.now c.args.lists.now (writing (g.S.Semantics.meanings c.args.semantics.now) c.args.rules.now) c.run.ensures.nest c.in_ok-file_edits.field-0 (returns-clause-answer g c)

pub returns-clause-order : goal.returns-clause-order
returns-clause-order g c = edits_ordered c.args.kept.now c.args.lists.now (writing (g.S.Semantics.meanings c.args.semantics.now) c.args.rules.now) c.run.ensures.nest c.in_ok-file_edits.field-0 (returns-clause-answer g c)
