use Rattle.std.proofs.Common.{◌≡◌, ◌<◌, ℕ}
use Rattle.ssr_reports.specs.Places.{IsAt, line_of, column_of}
use Rattle.ssr_reports.proofs.places.byte_at.Given as goal

-- the place so far is that of the byte, and nothing before stands at the place that is asked for
abbrev pub invariant-loop-offset : goal.invariant-loop-offset
invariant-loop-offset l =
    (l.here.line ≡ line_of l.text l.offset) × (l.here.column ≡ column_of l.text l.offset) × ((before : ℕ) → before < l.offset → IsAt l.text l.place before → ⊥)
