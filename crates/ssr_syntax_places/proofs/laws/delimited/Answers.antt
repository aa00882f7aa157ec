use Rattle.ssr_syntax_places.proofs.Alone.{alone_before}
use Rattle.ssr_syntax_places.proofs.Delimited.{block_anywhere, delimited_alike}
use Rattle.ssr_syntax_places.proofs.WholeTokens.{whole_solid}
use Rattle.ssr_syntax_places.proofs.laws.delimited.Goals as goal

pub returns : goal.returns
returns c = record { alike = delimited_alike; block = block_anywhere; alone = alone_before; whole = whole_solid }
