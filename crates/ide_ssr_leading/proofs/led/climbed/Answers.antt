use Rattle.std.proofs.Common.{◌≡◌, sym, ap, ◌∙◌, arith}
use Rattle.ssr_base_trees.specs.Workspace.{trees}
use Rattle.ssr_base_trees.specs.Laws.{climbed}
use Rattle.ide_ssr_leading.proofs.Climbing.{climbed_more, climbed_out}
use Rattle.ide_ssr_leading.proofs.led.climbed.Goals as goal

pub returns-in_default : goal.returns-in_default
returns-in_default c =
    let l = c.loop-left in
    sym (climbed_out (trees c.args.workspace.now) l.left l.at (omega arith) (sym c.in_default.ensures)) ∙ l.invariant

pub loop-left-preserved : goal.loop-left-preserved
loop-left-preserved c =
    let l = c.loop-left in
    sym (climbed_more (trees c.args.workspace.now) l.left l.at c.in-Some.above (omega arith) (sym c.in-Some.ensures)) ∙ l.invariant

pub returns : goal.returns
returns c =
    let l = c.loop-left in
    let none : l.left ≡ 0 = omega arith in
    ap (λ k. climbed (trees c.args.workspace.now) k l.at) (sym none) ∙ l.invariant
