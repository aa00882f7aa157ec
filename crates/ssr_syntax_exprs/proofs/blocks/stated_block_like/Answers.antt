use Rattle.std.proofs.Common.{rules}
use Rattle.ssr_syntax_exprs.specs.Blocks.{stated_block_like}
use Rattle.ssr_syntax_exprs.proofs.blocks.stated_block_like.Goals as goal

pub returns-then-at-2 : goal.returns-then-at-2
unfolding stated_block_like
returns-then-at-2 g c = search rules steps 3000000
