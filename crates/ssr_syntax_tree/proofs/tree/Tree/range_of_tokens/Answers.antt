use Rattle.std.proofs.Common.{arith}
use Rattle.ssr_syntax_tree.proofs.RowLaws.{offset_grows}
use Rattle.ssr_syntax_tree.proofs.tree.Tree.range_of_tokens.Goals as goal

pub new-requires : goal.new-requires
new-requires c = omega (arith, c.offset.ensures.value, c.offset-2.ensures.value, offset_grows c.args.self.now c.args.first c.args.past c.requires)
