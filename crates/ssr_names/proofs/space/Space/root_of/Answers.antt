use Rattle.std.proofs.Common.{◌≤◌, length, refl, arith}
use Rattle.ssr_names.specs.Lookup.{within_itself, within_below}
use Rattle.ssr_names.proofs.LookingUp.{climbs_first, climbs_on, climbs_none}
use Rattle.ssr_names.proofs.space.Space.root_of.Goals as goal

pub loop-step-init : goal.loop-step-init
loop-step-init c = record { inside = λ outer w. w; climbs = climbs_first c.args.self.now c.args.«module» }

pub returns-in_default : goal.returns-in_default
returns-in_default c = let l = c.loop-step in record { above = l.invariant.inside l.at (within_itself l.at); top = λ _. c.in_default.ensures.top refl }

pub loop-step-preserved : goal.loop-step-preserved
loop-step-preserved c =
    let space = c.args.self.now in
    let l = c.loop-step in
    record {
      inside = λ outer w. l.invariant.inside outer (within_below l.at c.in-Some.up outer c.in-Some.ensures.above w);
      climbs = climbs_on space c.args.«module» l.at c.in-Some.up l.step c.in-Some.ensures.above l.invariant.climbs;
    }

pub returns : goal.returns
returns c =
    let space = c.args.self.now in
    let l = c.loop-step in
    let all : length space.table.now.modules.items ≤ l.step = omega (arith, c.len-step-end.ensures, c.loop-step-test.false, space.table.now.modules.ok.0) in
    record { above = l.invariant.inside l.at (within_itself l.at); top = climbs_none space c.args.«module» l.at l.step all l.invariant.climbs }
