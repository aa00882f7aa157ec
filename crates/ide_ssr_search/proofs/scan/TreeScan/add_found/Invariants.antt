use Rattle.ssr_base_trees.specs.Workspace.{trees}
use Rattle.ide_ssr_search.specs.Tries.{AreTried}
use Rattle.ide_ssr_search.specs.Private.KnownTrees.{KnowsShut}
use Rattle.ide_ssr_search.specs.Private.Scan.{AreFoundBefore, KeepsLimits}
use Rattle.ide_ssr_search.proofs.Shutting.{IsPast}
use Rattle.ide_ssr_search.proofs.scan.TreeScan.add_found.Given as goal

abbrev pub invariant-loop-number : goal.invariant-loop-number
invariant-loop-number g l = record {
  found : AreFoundBefore l.self.known.workspace.now (g.S.Semantics.meanings l.self.semantics.now) l.self.known.context.now l.self.rules.now.rules.now l.self.rules.now.wanted.now l.self.known.number l.number 0 l.found.items;
  count : KeepsLimits l.self.known.workspace.now l.self.known.context.now l.self.rules.now.rules.now l.self.rules.now.wanted.now l.self.known.number 0 l.self.known.number l.number 0 l.initial.tries l.tries;
  tried : AreTried l.initial.found.items l.found.items l.initial.tries l.tries;
  shut : KnowsShut l.self.known.workspace.now l.self.known.number l.number l.shut;
  past : IsPast (trees l.self.known.workspace.now) l.self.known.number l.self.known.tree.now l.number l.past;
}
