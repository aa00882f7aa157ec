use Rattle.std.proofs.Common.{◌≡◌, ◌<◌, length, refl, arith, rules, slice_get}
use Rattle.ssr_diff.proofs.SameLines.{same_none, same_join, same_one}
use Rattle.ssr_diff.proofs.trimming.behind_same.Goals as goal

pub loop-at-init : goal.loop-at-init
loop-at-init c = record { same = same_none _ _ c.args.from (omega arith) (omega arith); left = c.requires }

pub loop-at-preserved : goal.loop-at-preserved
loop-at-preserved c =
    let old = c.args.texts.now.old in
    let new = c.args.texts.now.new in
    let at = c.loop-at.at in
    let agreed : slice_get old at.old ≡ slice_get new at.new = search rules in
    let in_old : at.old < length old = omega arith in
    let in_new : at.new < length new = omega arith in
    record {
      same = same_join old new c.args.from at _ c.loop-at.invariant.same (same_one old new at _ agreed in_old in_new refl refl);
      left = record { old_order = omega arith; new_order = omega arith; old_fits = omega arith; new_fits = omega arith };
    }
