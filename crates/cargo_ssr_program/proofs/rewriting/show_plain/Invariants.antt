use Rattle.std.proofs.Common.{take}
use Rattle.cargo_ssr_program.specs.Planned.{diffs_of}
use Rattle.ssr_streams.proofs.Shared.{HasSent}
use Rattle.cargo_ssr_program.proofs.rewriting.show_plain.Given as goal

abbrev pub invariant-loop-planned : goal.invariant-loop-planned
invariant-loop-planned g l =
    HasSent (g.W.Sink.taken l.initial.console.out) (g.W.Sink.taken l.console.out) (diffs_of (take l.planned-index l.plan))
