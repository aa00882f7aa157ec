use Rattle.std.proofs.Common.{ap, arith, length}
use Rattle.ssr_syntax_tree.proofs.RowLaws.{are_parts, offset_past, some_token}
use Rattle.ssr_syntax_tree.proofs.tree.Tree.token_at.Goals as goal

pub loop-past-init : goal.loop-past-init
loop-past-init c =
    let parts = are_parts c.self.inside c.args.self.now c.self.invariant c.self.view_is in
    let long = ap length parts.spells in
    record {
      ordered = omega (arith, some_token c.args.self.now (omega arith));
      within = omega arith;
      begun = omega arith;
      ahead = omega (arith, offset_past c.args.self.now c.token_count-past.result (omega arith));
    }
