use Rattle.std.proofs.Common.{◌≡◌, false, map}
use Rattle.ssr_base_trees.specs.Origins.{span_of}
use Rattle.ssr_standing.specs.ArgumentNames.{names_at, some_below}
use Rattle.ssr_standing.proofs.argument_names.names_arguments.Given as goal

abbrev pub invariant-loop-number : goal.invariant-loop-number
invariant-loop-number l = some_below (names_at (map span_of l.places) l.tree) l.number ≡ false
