use Rattle.std.proofs.Common.{◌+◌, ◌-◌, ◌≤◌, length}
use Rattle.ide_ssr_search.specs.Private.KnownTrees.{KnowsShut, KnowsInside}
use Rattle.ide_ssr_search.specs.Private.Scan.{AreFoundBefore, KeepsLimits}
use Rattle.ide_ssr_search.proofs.scan.find_wanted.Given as goal

abbrev pub invariant-loop-tree : goal.invariant-loop-tree
invariant-loop-tree g l = record {
  within : l.number ≤ length l.workspace.files + length l.workspace.expansions;
  found : AreFoundBefore l.workspace (g.S.Semantics.meanings l.semantics) l.context l.wanted.rules.now l.wanted.flags.now l.number 0 0 l.found.items;
  count : KeepsLimits l.workspace l.context l.wanted.rules.now l.wanted.flags.now 0 0 l.number 0 0 l.initial.tries l.tries;
  tried : l.initial.tries + length l.found.items ≤ l.tries;
  shut : KnowsShut l.workspace l.number 0 l.shut;
  inside : KnowsInside l.workspace l.context l.number l.inside.items;
}

abbrev pub decreases-loop-tree : goal.decreases-loop-tree
decreases-loop-tree g l = length l.workspace.files + length l.workspace.expansions - l.number
