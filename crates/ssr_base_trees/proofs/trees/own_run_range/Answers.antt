use Rattle.std.proofs.Common.{◌+◌, ◌≤◌, arith}
use Rattle.ssr_syntax_tree.proofs.Shared.{offset_grows}
use Rattle.ssr_base_trees.proofs.trees.own_run_range.Goals as goal

pub new-requires : goal.new-requires
new-requires c =
    let first = c.args.run.first in
    let past = 1 + c.in_ok-last.last.0 in
    let some : first ≤ past = omega (arith, c.in_ok-last.ensures.last) in
    omega (arith, c.token_range-start.ensures.start, c.token_range.ensures.end, offset_grows c.args.tree.now first past some)
