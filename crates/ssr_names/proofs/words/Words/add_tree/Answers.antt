use Rattle.std.proofs.Common.{arith}
use Rattle.ssr_names.proofs.Collecting.{keeps_itself, keeps_on, next_node}
use Rattle.ssr_names.proofs.words.Words.add_tree.Goals as goal

pub loop-place-init : goal.loop-place-init
loop-place-init c = record { kept = keeps_itself c.args.self.now; collected = λ n low. absurd (omega arith) }

pub loop-place-preserved : goal.loop-place-preserved
loop-place-preserved c = record {
  kept = keeps_on _ _ _ c.loop-place.invariant.kept c.in_ok-add_node.ensures.kept;
  collected =
      next_node c.args.tree.now c.args.number c.loop-place.self c.add_node.new.self c.loop-place.place c.in_ok-add_node.ensures.kept
      c.in_ok-add_node.ensures.collected c.loop-place.invariant.collected;
}
