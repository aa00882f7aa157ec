use Rattle.std.proofs.Common.{◌≡◌, ◌-◌, ap, arith, rules, slice_get}
use Rattle.ssr_diff.specs.declared.places.Place.{Place}
use Rattle.ssr_diff.proofs.SameLines.{same_none, same_join, same_one}
use Rattle.ssr_diff.proofs.trimming.before_same.Goals as goal

pub loop-at-init : goal.loop-at-init
loop-at-init c = record { same = same_none _ _ c.args.to (omega arith) (omega arith); left = c.requires }

pub loop-at-preserved : goal.loop-at-preserved
loop-at-preserved c =
    let old = c.args.texts.now.old in
    let new = c.args.texts.now.new in
    let at = c.loop-at.at in
    let before = c.line_before-before.result in
    let old_is : before.old ≡ at.old - 1 = ap (λ (p : Place). p.old) c.line_before-before.ensures in
    let new_is : before.new ≡ at.new - 1 = ap (λ (p : Place). p.new) c.line_before-before.ensures in
    let agreed : slice_get old before.old ≡ slice_get new before.new = search rules in
    record {
      same = same_join old new before at c.args.to (same_one old new before at agreed (omega arith) (omega arith) (omega arith) (omega arith)) c.loop-at.invariant.same;
      left = record { old_order = omega arith; new_order = omega arith; old_fits = omega arith; new_fits = omega arith };
    }
