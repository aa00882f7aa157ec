use Rattle.std.proofs.Common.{arith}
use Rattle.ssr_standing.proofs.Pairwise.{offset_more}
use Rattle.ssr_standing.proofs.runs.byte_count.Goals as goal

pub overflow_sub-result : goal.overflow_sub-result
overflow_sub-result c = omega (arith, offset_more c.args.tree.now c.args.token.0 c.requires, c.token_range-range.ensures.start, c.token_range-range.ensures.end)

pub returns : goal.returns
returns c = omega (arith, offset_more c.args.tree.now c.args.token.0 c.requires, c.token_range-range.ensures.start, c.token_range-range.ensures.end)
