use Rattle.std.proofs.Common.{◌≡◌, map, take}
use Rattle.ssr_syntax_tree.specs.Syntax.{source_of}
use Rattle.ssr_base_trees.specs.Applied.{changes_of}
use Rattle.ssr_standing.specs.Expansions.{as_it_is}
use Rattle.ssr_standing.proofs.expansions.as_they_are.Given as goal

abbrev pub invariant-loop-range : goal.invariant-loop-range
invariant-loop-range l = changes_of l.changes.items ≡ map (as_it_is (source_of l.file)) (take l.range-index (changes_of l.range-items))
