use Rattle.ssr_base_trees.specs.Workspace.{trees}
use Rattle.ide_ssr_leading.proofs.Naming.{AreNamedTo}
use Rattle.ide_ssr_leading.proofs.named.are_named.Given as goal

abbrev pub invariant-loop-number : goal.invariant-loop-number
invariant-loop-number l = AreNamedTo (trees l.workspace) l.number
