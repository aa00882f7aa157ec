use Rattle.ssr_diff.proofs.SameLines.{agree}
use Rattle.ssr_diff.proofs.lines.Texts.agree_at.Goals as goal

pub returns : goal.returns
returns c =
    agree c.args.self.now.old c.args.self.now.new c.args.place.old c.args.place.new c.line.result.now c.line-2.result.now c.eq.result
    c.line.ensures c.line-2.ensures c.eq.ensures
