use Rattle.std.proofs.Common.{◌≡◌, false}
use Rattle.ssr_syntax_tree.specs.Places.{node_of}
use Rattle.ssr_standing.specs.ArgumentNames.{is_equals_at, some_below}
use Rattle.ssr_standing.proofs.argument_names.has_equals.Given as goal

abbrev pub invariant-loop-index : goal.invariant-loop-index
invariant-loop-index l = some_below (is_equals_at (node_of l.tree l.node.0)) l.index ≡ false
