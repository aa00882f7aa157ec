use Rattle.std.proofs.Common.{◌-◌, length}
use Rattle.ssr_diff.proofs.cuts.Cursor.seek.Given as goal

abbrev pub decreases-loop-self : goal.decreases-loop-self
decreases-loop-self l = length l.lines - l.self.line
