use Rattle.std.proofs.Common.{◌-◌, ◌^◌, vec_len}
use Rattle.ssr_program.proofs.Reading.{HasRead}
use Rattle.ssr_program.proofs.transfer.read_all.Given as goal

abbrev pub invariant-loop-input : goal.invariant-loop-input
invariant-loop-input g l = HasRead (g.R.Source.given l.initial.source) (g.R.Source.given l.source) l.input.items

abbrev pub decreases-loop-input : goal.decreases-loop-input
decreases-loop-input g l = 2 ^ 64 - vec_len l.input
