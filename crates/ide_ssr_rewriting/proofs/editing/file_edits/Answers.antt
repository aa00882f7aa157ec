use Rattle.std.proofs.Common.{◌≡◌, ◌-◌, ◌<◌, List, None, get_or, length, refl, sym, ◌∙◌, ap, subst, arith}
use Rattle.ssr_base_trees.specs.Laws.{LiesInFile}
use Rattle.ide_ssr_rewriting.specs.Clashes.{Rewrite}
use Rattle.ide_ssr_rewriting.specs.Fitting.{fitted_in}
use Rattle.ide_ssr_rewriting.proofs.Answering.{group_fits_tree}
use Rattle.ide_ssr_rewriting.proofs.Groups.{all_done, all_grouped, done-more, done-starts, fewer_left, group_fits, grouped_some}
use Rattle.ide_ssr_rewriting.proofs.editing.file_edits.Goals as goal

abbrev nobody : Rewrite
nobody = record { range = record { file = 0; span = record { start = 0; end = 0 } }; text = None }

pub loop-file-init : goal.loop-file-init
loop-file-init c = done-starts c.args.workspace.now c.args.list.items c.args.list.items c.new-edits.result refl c.new-edits.ensures.empty

pub new-requires : goal.new-requires
new-requires c =
    group_fits c.args.workspace.now c.args.list.items c.loop-file.list.items c.take_group.new.list.items c.in_ok-group.group.items c.loop-file.edits c.in-Some.file.0 _
    c.loop-file.invariant c.in_ok-group.ensures c.requires.order c.requires.clean c.in_ok-changes.ensures

pub fitted_in-requires : goal.fitted_in-requires
fitted_in-requires c =
    group_fits_tree c.args.workspace.now c.in-Some.file.0 c.in_ok-group.group.items c.new.result c.in_ok-group.ensures.file
    (all_grouped (λ r. LiesInFile c.args.workspace.now r.range) c.args.workspace.now c.args.list.items c.loop-file.list.items c.take_group.new.list.items c.in_ok-group.group.items c.loop-file.edits c.in-Some.file.0
    c.loop-file.invariant c.in_ok-group.ensures c.requires.fits)
    (grouped_some c.in-Some.file.0 c.loop-file.list.items c.take_group.new.list.items c.in_ok-group.group.items nobody c.in_ok-group.ensures
    (subst (λ (rs : List Rewrite). 0 < length rs) c.deref.ensures.value c.in-Some.ensures.found.0)
    (subst (λ (rs : List Rewrite). (get_or rs (length rs - 1) nobody).range.file ≡ c.in-Some.file.0) c.deref.ensures.value (c.in-Some.ensures.found.1 nobody)))
    (c.new.ensures ∙ c.in_ok-changes.ensures)

pub loop-file-preserved : goal.loop-file-preserved
loop-file-preserved c =
    done-more c.args.workspace.now c.args.list.items c.loop-file.list.items c.take_group.new.list.items c.in_ok-group.group.items c.loop-file.edits c.insert.new.self c.in-Some.file nobody c.in_ok-edit.edit
    c.loop-file.invariant c.in_ok-group.ensures
    (subst (λ (rs : List Rewrite). 0 < length rs) c.deref.ensures.value c.in-Some.ensures.found.0)
    (subst (λ (rs : List Rewrite). (get_or rs (length rs - 1) nobody).range.file ≡ c.in-Some.file.0) c.deref.ensures.value (c.in-Some.ensures.found.1 nobody))
    c.requires.order (c.in_ok-edit.ensures ∙ ap (fitted_in c.args.workspace.now c.in-Some.file.0) (c.new.ensures ∙ c.in_ok-changes.ensures)) c.in_ok-insert.ensures.updates.0

pub loop-file-preserved-in_ok-insert : goal.loop-file-preserved-in_ok-insert
loop-file-preserved-in_ok-insert c =
    done-more c.args.workspace.now c.args.list.items c.loop-file.list.items c.take_group.new.list.items c.in_ok-group.group.items c.loop-file.edits c.insert.new.self c.in-Some.file nobody c.in_ok-edit.edit
    c.loop-file.invariant c.in_ok-group.ensures
    (subst (λ (rs : List Rewrite). 0 < length rs) c.deref.ensures.value c.in-Some.ensures.found.0)
    (subst (λ (rs : List Rewrite). (get_or rs (length rs - 1) nobody).range.file ≡ c.in-Some.file.0) c.deref.ensures.value (c.in-Some.ensures.found.1 nobody))
    c.requires.order (c.in_ok-edit.ensures ∙ ap (fitted_in c.args.workspace.now c.in-Some.file.0) (c.new.ensures ∙ c.in_ok-changes.ensures)) c.in_ok-insert.ensures.updates.0

pub loop-file-smaller : goal.loop-file-smaller
loop-file-smaller c =
    omega (
      arith,
      c.take_group.new.list.ok,
      c.loop-file.list.ok,
      fewer_left c.loop-file.list.items c.take_group.new.list.items c.in_ok-group.group.items c.in-Some.file.0 nobody c.in_ok-group.ensures
          (subst (λ (rs : List Rewrite). 0 < length rs) c.deref.ensures.value c.in-Some.ensures.found.0)
          (subst (λ (rs : List Rewrite). (get_or rs (length rs - 1) nobody).range.file ≡ c.in-Some.file.0) c.deref.ensures.value (c.in-Some.ensures.found.1 nobody)),
    )

pub loop-file-smaller-in_ok-insert : goal.loop-file-smaller-in_ok-insert
loop-file-smaller-in_ok-insert c =
    omega (
      arith,
      c.take_group.new.list.ok,
      c.loop-file.list.ok,
      fewer_left c.loop-file.list.items c.take_group.new.list.items c.in_ok-group.group.items c.in-Some.file.0 nobody c.in_ok-group.ensures
          (subst (λ (rs : List Rewrite). 0 < length rs) c.deref.ensures.value c.in-Some.ensures.found.0)
          (subst (λ (rs : List Rewrite). (get_or rs (length rs - 1) nobody).range.file ≡ c.in-Some.file.0) c.deref.ensures.value (c.in-Some.ensures.found.1 nobody)),
    )

pub returns : goal.returns
returns c = all_done c.args.workspace.now c.args.list.items c.loop-file.list.items c.loop-file.edits c.loop-file.invariant (sym c.deref.ensures.value ∙ c.in_default.ensures.none)
