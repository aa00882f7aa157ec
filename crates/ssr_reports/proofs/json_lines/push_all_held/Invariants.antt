use Rattle.std.proofs.Common.{take, flat_map}
use Rattle.ssr_reports.specs.JsonLines.{Gains, held_tokens}
use Rattle.ssr_reports.proofs.json_lines.push_all_held.Given as goal

abbrev pub invariant-loop-held : goal.invariant-loop-held
invariant-loop-held l = Gains l.initial.writer l.writer (flat_map held_tokens (take l.held-index l.placeholders))
