use Rattle.ide_ssr.proofs.Flattening.{told_all}
use Rattle.ide_ssr.proofs.flattened.take_all_inner.Goals as goal

pub returns-clause-told : goal.returns-clause-told
returns-clause-told c =
    told_all c.loop-placeholder.placeholder-index c.args.placeholders.now c.loop-placeholder.placeholders c.args.left.now.items c.loop-placeholder.left.items c.loop-placeholder.invariant
