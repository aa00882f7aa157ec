use Rattle.std.proofs.Common.{take}
use Rattle.ide_ssr_debugging.specs.Private.Entries.{AreToldOf}
use Rattle.ide_ssr_debugging.proofs.entries.told_of.Given as goal

abbrev pub invariant-loop-node : goal.invariant-loop-node
invariant-loop-node g l = AreToldOf l.workspace (g.S.Semantics.meanings l.semantics) l.rules (take l.node-index l.nodes) l.told.items
