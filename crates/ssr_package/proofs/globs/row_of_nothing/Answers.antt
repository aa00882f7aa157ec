use Rattle.std.proofs.Common.{arith}
use Rattle.ssr_package.proofs.GlobLaws.{nothing_more}
use Rattle.ssr_package.proofs.globs.row_of_nothing.Goals as goal

pub loop-n-preserved : goal.loop-n-preserved
loop-n-preserved c =
    nothing_more c.args.pattern.now c.loop-n.row.items c.push-in-loop-n.new.self.items c.loop-n.n c.index-pattern-pattern.result c.nothing_fits_with-it_fits.result
    c.index.result.now (omega arith) c.in_ok-push-2.ensures.items c.nothing_fits_with-it_fits.ensures c.index-pattern-pattern.is c.index.ensures c.loop-n.invariant
