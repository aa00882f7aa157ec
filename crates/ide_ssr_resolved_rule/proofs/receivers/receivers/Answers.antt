use Rattle.std.proofs.Common.{◌<◌, length, length-set, sym, ap, ◌∙◌, arith}
use Rattle.ide_ssr_resolved_rule.proofs.ReceiverTables.{called_on_all, called_on_has, called_on_more, called_on_none}
use Rattle.ssr_syntax_tree.specs.Places.{node_of}
use Rattle.ide_ssr_resolved_rule.proofs.receivers.receivers.Goals as goal
use Rattle.ide_ssr_resolved_rule.proofs.receivers.receivers.Goals.{in-Some, in_default}

pub index_mut-requires : goal.index_mut-requires
index_mut-requires c =
    let has = called_on_has c.args.names.now (node_of c.args.tree.now c.loop-node.node) c.in-Some.placeholder (sym c.in-Some.is ∙ c.placeholder_called_on.ensures) in
    let long = c.loop-node.invariant.long in
    omega (arith, c.loop-node.table.ok.0)

pub loop-node-preserved : goal.loop-node-preserved
loop-node-preserved c =
    let names = c.args.names.now in
    let tree = c.args.tree.now in
    let n = c.loop-node.node in
    let table = c.loop-node.table.items in
    elim c.match-placeholder_called_on.branch [
      | in-Some w ↦
          let is = sym w.in-Some.is ∙ c.placeholder_called_on.ensures in
          let has = called_on_has names (node_of tree n) w.in-Some.placeholder is in
          let within : w.in-Some.placeholder < length table = let long = c.loop-node.invariant.long in omega arith in
          let written = ap (λ v. v.items) w.table-is in
          record {
            long = ap length written ∙ length-set table _ _ ∙ c.loop-node.invariant.long;
            told = called_on_more names tree n w.in-Some.placeholder table _ (omega arith) is within c.loop-node.invariant.told written;
          }
      | in_default w ↦
          let same = ap (λ v. v.items) w.table-is in
          record {
            long = ap length same ∙ c.loop-node.invariant.long;
            told = called_on_none names tree n table _ (omega arith) (sym w.in_default.is ∙ c.placeholder_called_on.ensures) c.loop-node.invariant.told same;
          }
    ]

pub returns : goal.returns
returns c = called_on_all c.args.names.now c.args.tree.now c.loop-node.node _ (omega arith) c.loop-node.invariant.told
