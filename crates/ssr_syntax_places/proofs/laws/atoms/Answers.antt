use Rattle.ssr_syntax_places.proofs.Shared.{literal_stands, path_stands}
use Rattle.ssr_syntax_places.proofs.laws.atoms.Goals as goal

pub returns : goal.returns
returns c = record { literal = literal_stands; path = path_stands }
