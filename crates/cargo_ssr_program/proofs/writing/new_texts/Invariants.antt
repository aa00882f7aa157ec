use Rattle.std.proofs.Common.{◌≡◌, map, string_bytes, take}
use Rattle.cargo_ssr_program.specs.Planned.{text_of, text_planned}
use Rattle.cargo_ssr_program.proofs.writing.new_texts.Given as goal

abbrev pub invariant-loop-place : goal.invariant-loop-place
invariant-loop-place l =
    map text_of l.texts.items ≡ map (text_planned (string_bytes l.input.folder) l.input.files.files) (take l.place l.plan)
