use Rattle.std.proofs.Common.{arith}
use Rattle.ide_ssr_resolving.proofs.FirstArguments.{eligible_had}
use Rattle.ide_ssr_resolving.proofs.eligible.eligible_paths.Goals as goal

pub returns-clause-has : goal.returns-clause-has
returns-clause-has g c =
    eligible_had (g.S.Semantics.meanings c.args.semantics.now) c.args.tree.now c.args.calls.now c.args.paths.now c.loop-path.path-index
    c.loop-path.eligible.items (omega (arith, c.loop-path-test.false)) c.requires.paths c.loop-path.invariant
