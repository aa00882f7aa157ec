use Rattle.std.proofs.Common.{◌≤◌, length, subst, refl, arith}
use Rattle.ssr_names.specs.Lookup.{IsWithin, within_itself, within_below}
use Rattle.ssr_names.proofs.LookingUp.{climbs_first, climbs_on, climbs_none, within_up, within_top}
use Rattle.ssr_names.proofs.space.Space.is_within.Goals as goal

pub loop-step-init : goal.loop-step-init
loop-step-init c = record { inside = λ outer w. w; outside = λ w. w; climbs = climbs_first c.args.self.now c.args.«module» }

pub returns-then-is_same-clause-within : goal.returns-then-is_same-clause-within
returns-then-is_same-clause-within c = λ _.
    c.loop-step.invariant.inside c.args.outer (subst (IsWithin c.args.self.now c.loop-step.at) (c.is_same.ensures.yes c.if-is_same.true) (within_itself c.loop-step.at))

pub returns-in_default-clause-apart : goal.returns-in_default-clause-apart
returns-in_default-clause-apart c = λ ordered _ w.
    within_top c.args.self.now c.loop-step.at c.args.outer (c.in_default.ensures.top refl) (c.is_same.ensures.no c.if-is_same.false) (c.loop-step.invariant.outside w)

pub loop-step-preserved : goal.loop-step-preserved
loop-step-preserved c =
    let space = c.args.self.now in
    let l = c.loop-step in
    let above = c.in-Some.ensures.above in
    record {
      inside = λ outer w. l.invariant.inside outer (within_below l.at c.in-Some.up outer above w);
      outside = λ w. within_up space l.at c.in-Some.up c.args.outer above (c.is_same.ensures.no c.if-is_same.false) (l.invariant.outside w);
      climbs = climbs_on space c.args.«module» l.at c.in-Some.up l.step above l.invariant.climbs;
    }

pub returns-clause-within : goal.returns-clause-within
returns-clause-within c = λ yes.
    c.loop-step.invariant.inside c.args.outer (subst (IsWithin c.args.self.now c.loop-step.at) (c.is_same-2.ensures.yes yes) (within_itself c.loop-step.at))

pub returns-clause-apart : goal.returns-clause-apart
returns-clause-apart c = λ ordered no w.
    let space = c.args.self.now in
    let all : length space.table.now.modules.items ≤ c.loop-step.step = omega (arith, c.len-step-end.ensures, c.loop-step-test.false, space.table.now.modules.ok.0) in
    within_top space c.loop-step.at c.args.outer (climbs_none space c.args.«module» c.loop-step.at c.loop-step.step all c.loop-step.invariant.climbs ordered)
    (c.is_same-2.ensures.no no) (c.loop-step.invariant.outside w)
