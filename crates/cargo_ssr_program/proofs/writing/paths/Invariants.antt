use Rattle.std.proofs.Common.{◌≡◌, map, string_bytes, take}
use Rattle.cargo_ssr_program.specs.Planned.{path_planned}
use Rattle.cargo_ssr_program.proofs.writing.paths.Given as goal

abbrev pub invariant-loop-planned : goal.invariant-loop-planned
invariant-loop-planned l =
    map string_bytes l.paths.items ≡ map (path_planned (string_bytes l.input.folder) l.input.files.files) (take l.planned-index l.plan)
