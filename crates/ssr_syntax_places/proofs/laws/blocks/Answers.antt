use Rattle.ssr_syntax_places.proofs.Blocks.{blocks_replaced, block_put}
use Rattle.ssr_syntax_places.proofs.laws.blocks.Goals as goal

pub returns : goal.returns
returns c = record { replaced = blocks_replaced; put = block_put }
