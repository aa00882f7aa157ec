use Rattle.ssr_names.proofs.LookingUp.{reached_more}
use Rattle.ssr_names.proofs.space.Space.add_globs.Goals as goal

pub loop-glob-preserved : goal.loop-glob-preserved
loop-glob-preserved c = λ root asked all reach.
    reached_more c.args.self.now root asked _ _ _ c.in_ok-add.ensures (reach _ (c.is_glob.ensures c.if-not-is_glob.false)) (c.loop-glob.invariant root asked all reach)
