use Rattle.std.proofs.Common.{ap, map, string_bytes, sym, ◌∙◌}
use Rattle.cargo_ssr_program.specs.Planned.{path_planned, text_of, text_planned}
use Rattle.cargo_ssr_program.proofs.InFiles.{at_both, map_more, text_there}
use Rattle.cargo_ssr_program.proofs.writing.new_texts.Goals as goal

pub loop-place-preserved : goal.loop-place-preserved
loop-place-preserved c =
    let folder = string_bytes c.args.input.now.folder in
    let files = c.args.input.now.files.files in
    let plan = c.args.plan.now in
    let within = c.loop-place-test.true in
    let path =
    c.as_str.ensures.value ∙ ap string_bytes c.index-paths-place.is
    ∙ at_both string_bytes (path_planned folder files) c.args.paths.now plan c.loop-place.place _ _ c.requires.paths within
    ∙ sym (ap (path_planned folder files) c.index-plan-place.is) in
    ap (map text_of) c.in_ok-push.ensures.items
    ∙ map_more text_of (text_planned folder files) plan c.loop-place.texts.items c.loop-place.place _ _ within c.loop-place.invariant
    (text_there folder files c.index-plan-place.result _ _ path c.text.ensures ∙ ap (text_planned folder files) c.index-plan-place.is)
