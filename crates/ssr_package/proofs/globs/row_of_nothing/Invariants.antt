use Rattle.std.proofs.Common.{◌+◌, []}
use Rattle.ssr_package.specs.Private.Globs.{AreFits}
use Rattle.ssr_package.proofs.globs.row_of_nothing.Given as goal

abbrev pub invariant-loop-n : goal.invariant-loop-n
invariant-loop-n l = AreFits (l.n + 1) l.pattern [] l.row.items
