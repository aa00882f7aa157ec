use Rattle.std.proofs.Common.{◌≡◌, length}
use Rattle.ide_ssr_resolved_rule.proofs.ReceiverTables.{TellsUpTo}
use Rattle.ide_ssr_resolved_rule.proofs.receivers.receivers.Given as goal

abbrev pub invariant-loop-node : goal.invariant-loop-node
invariant-loop-node l = record {
  long : length l.table.items ≡ length l.names;
  told : TellsUpTo l.names l.tree l.node l.table.items;
}
