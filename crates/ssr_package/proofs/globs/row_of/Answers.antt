use Rattle.std.proofs.Common.{arith}
use Rattle.ssr_package.proofs.GlobLaws.{name_more}
use Rattle.ssr_package.proofs.globs.row_of.Goals as goal

pub loop-n-preserved : goal.loop-n-preserved
loop-n-preserved c =
    name_more c.args.pattern.now c.args.name.now c.loop-n.row.items c.args.below.now c.push-in-loop-n.new.self.items c.loop-n.n c.index-pattern-pattern.result
    c.index-name-0.result c.fits_with-it_fits.result c.index.result.now (omega arith) c.requires.some c.in_ok-push-2.ensures.items c.fits_with-it_fits.ensures
    c.index-pattern-pattern.is c.index-name-0.is c.index.ensures c.requires.below c.loop-n.invariant
