use Rattle.ide_ssr_search.specs.Tries.{AreTried}
use Rattle.ide_ssr_search.specs.Private.Scan.{AreFoundBefore, KeepsLimits}
use Rattle.ide_ssr_search.proofs.scan.TreeScan.add_matches.Given as goal

abbrev pub invariant-loop-place : goal.invariant-loop-place
invariant-loop-place g l = record {
  found : AreFoundBefore l.self.known.workspace.now (g.S.Semantics.meanings l.self.semantics.now) l.self.known.context.now l.self.rules.now.rules.now l.self.rules.now.wanted.now l.self.known.number l.fn.node.0 l.place l.found.items;
  count : KeepsLimits l.self.known.workspace.now l.self.known.context.now l.self.rules.now.rules.now l.self.rules.now.wanted.now l.self.known.number l.fn.node.0 l.self.known.number l.fn.node.0 l.place l.initial.tries l.tries;
  tried : AreTried l.initial.found.items l.found.items l.initial.tries l.tries;
}
