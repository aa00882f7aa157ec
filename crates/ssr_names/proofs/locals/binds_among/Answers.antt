use Rattle.std.proofs.Common.{Contains, sym, subst}
use Rattle.ssr_names.proofs.Climbing.{take_whole}
use Rattle.ssr_names.proofs.locals.binds_among.Goals as goal

pub returns : goal.returns
returns c = λ free function had.
    c.loop-node.invariant function
    (subst (λ ns. Contains ns function) (sym (take_whole c.args.nodes.now c.loop-node.node-index c.loop-node-test.false)) had)
