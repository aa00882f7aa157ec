use Rattle.ssr_syntax_places.proofs.Insides.{cut_inside, put_inside}
use Rattle.ssr_syntax_places.proofs.laws.insides.Goals as goal

pub returns : goal.returns
returns c = record { cut = cut_inside; put = put_inside }
