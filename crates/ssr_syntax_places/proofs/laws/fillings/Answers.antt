use Rattle.ssr_syntax_places.proofs.Fillings.{stands_fills, alone_fills}
use Rattle.ssr_syntax_places.proofs.laws.fillings.Goals as goal

pub returns : goal.returns
returns c = record { stands = stands_fills; alone = alone_fills }
