use Rattle.ssr_syntax_places.proofs.Filling.{filled_append, spelled, single_filled}
use Rattle.ssr_syntax_places.proofs.laws.filled_tokens.Goals as goal

pub returns : goal.returns
returns c = record { append = filled_append; spelled = spelled; single = single_filled }
