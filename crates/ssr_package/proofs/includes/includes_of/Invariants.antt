use Rattle.std.proofs.Common.{length}
use Rattle.ssr_package.proofs.includes.includes_of.Given as goal

abbrev pub decreases-loop-first : goal.decreases-loop-first
decreases-loop-first l = length l.rest
