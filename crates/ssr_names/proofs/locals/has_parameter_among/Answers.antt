use Rattle.std.proofs.Common.{Contains, sym, subst}
use Rattle.ssr_names.proofs.Climbing.{take_whole}
use Rattle.ssr_names.proofs.locals.has_parameter_among.Goals as goal

pub returns : goal.returns
returns c = λ free item had.
    c.loop-node.invariant item
    (subst (λ ns. Contains ns item) (sym (take_whole c.args.nodes.now c.loop-node.node-index c.loop-node-test.false)) had)
