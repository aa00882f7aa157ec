use Rattle.std.proofs.Common.{◌≤◌, length, true≢false, sym, ◌∙◌, refl, arith}
use Rattle.ssr_names.specs.Lookup.{found_everywhere}
use Rattle.ssr_names.specs.Private.Answered.{surely_around}
use Rattle.ssr_names.proofs.LookingUp.{means_on, sure_on, out_on, everywhere_on, climbs_on, climbs_none, climbs_free, block_above, top_outermost}
use Rattle.ssr_names.proofs.space.Space.outward.Goals as goal

pub returns-then-hides_all : goal.returns-then-hides_all
returns-then-hides_all c =
    let space = c.args.self.now in
    let m = c.args.«module» in
    let question = c.args.question in
    let l = c.loop-step in
    record {
      means = means_on space question m l.at l.found c.in_ok-here.here c.hiding-found.result c.in_ok-here.ensures c.hiding-found.ensures l.invariant.means l.invariant.sure l.invariant.out l.invariant.surely;
      sure = sure_on space question m l.at l.found c.in_ok-here.here c.hiding-found.result c.in_ok-here.ensures c.hiding-found.ensures l.invariant.means l.invariant.sure l.invariant.out l.invariant.surely;
      free = λ unsure. absurd (true≢false (sym (c.hides_all.ensures c.if-hides_all.true) ∙ unsure));
    }

pub returns-in_default : goal.returns-in_default
returns-in_default c =
    let space = c.args.self.now in
    let m = c.args.«module» in
    let question = c.args.question in
    let l = c.loop-step in
    record {
      means = means_on space question m l.at l.found c.in_ok-here.here c.hiding-found.result c.in_ok-here.ensures c.hiding-found.ensures l.invariant.means l.invariant.sure l.invariant.out l.invariant.surely;
      sure = sure_on space question m l.at l.found c.in_ok-here.here c.hiding-found.result c.in_ok-here.ensures c.hiding-found.ensures l.invariant.means l.invariant.sure l.invariant.out l.invariant.surely;
      free = everywhere_on space question m l.at l.found c.in_ok-here.here c.hiding-found.result c.in_ok-here.ensures c.hiding-found.ensures l.invariant.means l.invariant.sure l.invariant.out l.invariant.surely
          (λ _. c.in_default.ensures.outermost refl);
    }

pub loop-step-preserved : goal.loop-step-preserved
loop-step-preserved c =
    let space = c.args.self.now in
    let m = c.args.«module» in
    let question = c.args.question in
    let l = c.loop-step in
    let around = c.in-Some.ensures.around in
    record {
      means = means_on space question m l.at l.found c.in_ok-here.here c.hiding-found.result c.in_ok-here.ensures c.hiding-found.ensures l.invariant.means l.invariant.sure l.invariant.out l.invariant.surely;
      sure = sure_on space question m l.at l.found c.in_ok-here.here c.hiding-found.result c.in_ok-here.ensures c.hiding-found.ensures l.invariant.means l.invariant.sure l.invariant.out l.invariant.surely;
      out = out_on space question m l.at l.found c.in_ok-here.here c.hiding-found.result c.in_ok-here.ensures c.hiding-found.ensures l.invariant.means l.invariant.sure l.invariant.out l.invariant.surely
          c.in-Some.up around;
      surely = λ is. l.invariant.surely (surely_around l.at c.in-Some.up around is);
      climbs = climbs_on space m l.at c.in-Some.up l.step (block_above space l.at c.in-Some.up around) l.invariant.climbs;
    }

pub returns : goal.returns
returns c =
    let space = c.args.self.now in
    let m = c.args.«module» in
    let question = c.args.question in
    let l = c.loop-step in
    let all : length space.table.now.modules.items ≤ l.step = omega (arith, c.len-step-end.ensures, c.loop-step-test.false, space.table.now.modules.ok.0) in
    record {
      means = l.invariant.means;
      sure = l.invariant.sure;
      free = λ unsure d is. l.invariant.out unsure d
          (found_everywhere l.at d (climbs_free space m l.at l.step question all l.invariant.climbs)
          (λ ordered. top_outermost space l.at (climbs_none space m l.at l.step all l.invariant.climbs ordered)) is);
    }
