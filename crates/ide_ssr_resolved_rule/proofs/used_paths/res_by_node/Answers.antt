use Rattle.std.proofs.Common.{◌<◌, length, length-set, ap, ◌∙◌, arith}
use Rattle.ide_ssr_resolved_rule.proofs.Marks.{told_more, told_kept}
use Rattle.ide_ssr_resolved_rule.proofs.used_paths.res_by_node.Goals as goal
use Rattle.ide_ssr_resolved_rule.proofs.used_paths.res_by_node.Goals.{then-is_none, else-is_none}

pub loop-path-preserved : goal.loop-path-preserved
loop-path-preserved c =
    let paths = c.args.paths.now in
    let i = c.loop-path.path-index in
    let table = c.loop-path.table.items in
    let low : i < length paths = omega (arith, c.loop-path-test.true) in
    let so_far = c.loop-path.invariant in
    elim c.if-is_none.branch [
      | then-is_none w ↦
          let written = ap (λ v. v.items) w.table-is in
          record {
            told = told_more c.args.tree.now paths i _ low c.requires table _ _ so_far.long so_far.told c.index.ensures w.if-is_none.ensures written;
            long = ap length written ∙ length-set table _ _ ∙ so_far.long;
          }
      | else-is_none w ↦
          let kept = ap (λ v. v.items) w.table-is in
          record {
            told = told_kept c.args.tree.now paths i _ low c.requires table _ _ so_far.long so_far.told c.index.ensures w.if-is_none.ensures kept;
            long = ap length kept ∙ so_far.long;
          }
    ]
