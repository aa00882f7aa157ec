use Rattle.ssr_syntax_places.proofs.CoreStands.{core_stands}
use Rattle.ssr_syntax_places.proofs.Fillings.{filled_fits}
use Rattle.ssr_syntax_places.proofs.laws.filled.Goals as goal

pub returns : goal.returns
returns c = record { stands = core_stands; fits = filled_fits }
