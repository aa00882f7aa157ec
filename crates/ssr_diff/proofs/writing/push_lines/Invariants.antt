use Rattle.std.proofs.Common.{◌≡◌, ◌++◌, string_bytes}
use Rattle.std.specs.List.{slice_range, flat_map}
use Rattle.ssr_diff.specs.Patch.{signed_line}
use Rattle.ssr_diff.proofs.writing.push_lines.Given as goal

abbrev pub invariant-loop-place : goal.invariant-loop-place
invariant-loop-place l = string_bytes l.text ≡ string_bytes l.initial.text ++ flat_map (signed_line l.sign) (slice_range l.lines l.from l.place)
