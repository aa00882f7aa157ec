use Rattle.std.proofs.Common.{ℕ, ◌<◌, List, ◌++◌, length, map, sym, ap, ◌∙◌, string_bytes, arith}
use Rattle.ssr_searching.specs.Searching.{changes_in}
use Rattle.ssr_base_trees.proofs.Shared.{file_there, none_there}
use Rattle.ssr_program.proofs.Parts.{left, fit_file, none_more, some_more}
use Rattle.ssr_program.proofs.of_facts.parts.Goals as goal
use Rattle.ssr_program.proofs.of_facts.parts.Goals.{in-Some-get+in_ok-push_part, in_default-get}

pub unreachable-requires : goal.unreachable-requires
unreachable-requires c =
    let less : c.loop-file.file < length c.args.workspace.now.files = omega (arith, c.file_count-file-end.ensures.count) in
    none_there c.args.workspace.now c.loop-file.file less (c.in_default.ensures)

pub push_part-requires : goal.push_part-requires
push_part-requires c =
    let less : c.loop-file.file < length c.args.workspace.now.files = omega (arith, c.file_count-file-end.ensures.count) in
    fit_file c.args.workspace.now c.loop-file.file _ c.args.edits.now _ (file_there _ _ _ less c.in-Some.ensures) c.requires (sym c.in-Some-get.ensures.value)

pub loop-file-preserved : goal.loop-file-preserved
loop-file-preserved c =
    let less : c.loop-file.file < length c.args.workspace.now.files = omega (arith, c.file_count-file-end.ensures.count) in
    let there = file_there _ _ _ less c.in-Some.ensures in
    let names = map string_bytes c.args.names.now in
    let files = c.args.workspace.now.files in
    let new = changes_in c.args.edits.now in
    elim c.match-get.branch [
      | in-Some-get+in_ok-push_part w ↦
          some_more _ _ _ _ _ less there (string_bytes c.loop-file.text) _ _ _ _ (sym w.in-Some-get.ensures.value) w.name_of.ensures
          (ap string_bytes w.text-is ∙ w.in_ok-push_part.ensures) c.loop-file.invariant
      | in_default-get w ↦
          none_more names files new c.loop-file.file _ less there (string_bytes c.match-get.text) _ (sym w.in_default-get.ensures.value)
          (ap (λ (s : List ℕ). s ++ left names files new c.loop-file.file) (ap string_bytes w.text-is) ∙ c.loop-file.invariant)
    ]
