-- The closure stands between two levels.
use Rattle.std.proofs.Common.{◌+◌, ◌*◌}
use Rattle.ssr_syntax.proofs.grammar.+fn-read-read_less+read.Given as goal

abbrev pub decreases-read_less : goal.decreases-read_less
decreases-read_less l = 2 * l.less + 1

abbrev pub decreases-read : goal.decreases-read
decreases-read l = 2 * l.left
