use Rattle.std.proofs.Common.{◌≡◌, ◌<◌, ◌+◌, ◌-◌, length, length-set, map, subst, ◌∙◌, arith}
use Rattle.ssr_base_trees.specs.Origins.{plain_origin}
use Rattle.ssr_base_trees.specs.Private.Covers.{CoversFrom}
use Rattle.ssr_base_trees.proofs.CoverLaws.{covers_more}
use Rattle.ssr_base_trees.proofs.covers.covers.Goals as goal

pub loop-left-preserved : goal.loop-left-preserved
loop-left-preserved c =
    let tree = c.args.tree.now in
    let origins = map plain_origin c.args.origins.now in
    let list = c.loop-left.covers.items in
    let n = c.loop-left.left - 1 in
    let next : c.loop-left.left ≡ 1 + n = omega arith in
    let within : n < length list = omega (arith, c.loop-left.invariant.within) in
    let counted = length-set list n c.cover_below.result in
    record {
      within = omega (arith, counted, within);
      counted = counted ∙ c.loop-left.invariant.counted;
      known =
          covers_more tree origins n list c.cover_below.result
          (subst (λ m. CoversFrom tree origins m list) next c.loop-left.invariant.known) within c.cover_below.ensures;
    }
