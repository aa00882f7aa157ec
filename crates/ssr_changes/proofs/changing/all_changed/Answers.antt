use Rattle.std.proofs.Common.{◌≡◌, ◌<◌, ◌≤◌, ◌++◌, List, All, Some, length, map, sym, ap, subst, ◌∙◌, arith}
use Rattle.std.proofs.lemmas.List.Elements.{All-push}
use Rattle.ssr_base_trees.specs.Workspace.{Workspace}
use Rattle.ssr_searching.specs.Searching.{changes_in}
use Rattle.ssr_changes.specs.declared.changing.FileChange.{FileChange}
use Rattle.ssr_changes.specs.Changing.{FitsIn, shown}
use Rattle.ssr_changes.proofs.FileLists.{searched_length, some_at}
use Rattle.ssr_changes.proofs.InFiles.{fits_tree, left_from, none_left, none_more, others_stay, some_more}
use Rattle.ssr_changes.proofs.changing.all_changed.Goals as goal
use Rattle.ssr_changes.proofs.changing.all_changed.Goals.{in-Some+in_ok-changed+in_ok-push, in_default}

pub changed-requires-clause-there : goal.changed-requires-clause-there
changed-requires-clause-there c =
    let same = searched_length c.args.files.now.workspace.files c.args.files.now.files c.workspace.ensures.searched in
    omega (arith, c.file_count-file-end.ensures.count, ap (λ (w : Workspace). length w.files) c.workspace.ensures.workspace, same, c.loop-file-test.true)

pub changed-requires-clause-fits : goal.changed-requires-clause-fits
changed-requires-clause-fits c =
    fits_tree c.args.files.now.workspace c.args.edits c.loop-file.file c.in-Some.edit c.requires
    (sym (c.loop-file.invariant.same c.loop-file.file (omega arith)) ∙ sym c.in-Some.ensures.value)

pub loop-file-preserved : goal.loop-file-preserved
loop-file-preserved c =
    let files = c.args.files.now.files in
    let new = changes_in c.args.edits in
    let space = c.args.files.now.workspace in
    let n = c.loop-file.file in
    let same = searched_length c.args.files.now.workspace.files files c.workspace.ensures.searched in
    let less : n < length files =
    omega (arith, c.file_count-file-end.ensures.count, ap (λ (w : Workspace). length w.files) c.workspace.ensures.workspace, same, c.loop-file-test.true) in
    let here = sym (c.loop-file.invariant.same n (omega arith)) in record {
      same = λ k behind. others_stay c.loop-file.left c.remove.new.self n c.remove.ensures.updates k (omega arith) ∙ c.loop-file.invariant.same k (omega arith);
      made =
          elim c.match-remove.branch [
            | in-Some+in_ok-changed+in_ok-push w ↦
                let change = w.in_ok-changed.ensures.change in
                some_more space new files n change.0 less change.1 c.loop-file.made.items c.match-remove.made.items w.in_ok-changed.field-0 w.in-Some.edit _
                (here ∙ sym w.in-Some.ensures.value) change.2 (ap (λ v. v.items) w.made-is ∙ w.in_ok-push.ensures.items) c.loop-file.invariant.made
            | in_default w ↦
                let there = some_at files n less in
                none_more space new files n there.0 less there.1 (map shown c.match-remove.made.items) _ (here ∙ sym w.in_default.ensures.value)
                (ap (λ v. map shown v.items ++ left_from space new files n) w.made-is ∙ c.loop-file.invariant.made)
          ];
      fit =
          elim c.match-remove.branch [
            | in-Some+in_ok-changed+in_ok-push w ↦
                subst (All (FitsIn files)) (sym (ap (λ v. v.items) w.made-is ∙ w.in_ok-push.ensures.items))
                (All-push (FitsIn files) c.loop-file.made.items w.in_ok-changed.field-0 c.loop-file.invariant.fit w.in_ok-changed.ensures.fits)
            | in_default w ↦ subst (λ (made : List FileChange). All (FitsIn files) made) (sym (ap (λ v. v.items) w.made-is)) c.loop-file.invariant.fit
          ];
    }

pub returns-clause-changes : goal.returns-clause-changes
returns-clause-changes c =
    let same = searched_length c.args.files.now.workspace.files c.args.files.now.files c.workspace.ensures.searched in
    let all : length c.args.files.now.files ≤ c.loop-file.file =
    omega (arith, c.file_count-file-end.ensures.count, ap (λ (w : Workspace). length w.files) c.workspace.ensures.workspace, same, c.loop-file-test.false) in
    none_left c.args.files.now.workspace (changes_in c.args.edits) c.args.files.now.files c.loop-file.file (map shown c.loop-file.made.items) all c.loop-file.invariant.made
