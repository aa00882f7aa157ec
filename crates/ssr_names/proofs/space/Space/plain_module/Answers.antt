use Rattle.std.proofs.Common.{◌≤◌, length, refl, arith}
use Rattle.ssr_names.specs.Lookup.{blocks_none, blocks_one}
use Rattle.ssr_names.proofs.LookingUp.{climbs_first, climbs_on, climbs_none, block_above, top_outermost}
use Rattle.ssr_names.proofs.space.Space.plain_module.Goals as goal

pub loop-step-init : goal.loop-step-init
loop-step-init c = record { inside = λ outer w. w; climbs = climbs_first c.args.self.now c.args.«module» }

pub returns-in_default : goal.returns-in_default
returns-in_default c = let l = c.loop-step in record { around = l.invariant.inside l.at (blocks_none l.at); outermost = λ _. c.in_default.ensures.outermost refl }

pub loop-step-preserved : goal.loop-step-preserved
loop-step-preserved c =
    let space = c.args.self.now in
    let l = c.loop-step in
    record {
      inside = λ outer w. l.invariant.inside outer (blocks_one l.at c.in-Some.up outer c.in-Some.ensures.around w);
      climbs = climbs_on space c.args.«module» l.at c.in-Some.up l.step (block_above space l.at c.in-Some.up c.in-Some.ensures.around) l.invariant.climbs;
    }

pub returns : goal.returns
returns c =
    let space = c.args.self.now in
    let l = c.loop-step in
    let all : length space.table.now.modules.items ≤ l.step = omega (arith, c.len-step-end.ensures, c.loop-step-test.false, space.table.now.modules.ok.0) in
    record { around = l.invariant.inside l.at (blocks_none l.at); outermost = λ ordered. top_outermost space l.at (climbs_none space c.args.«module» l.at l.step all l.invariant.climbs ordered) }
