use Rattle.ssr_syntax_places.proofs.Parentheses.{paren_stands}
use Rattle.ssr_syntax_places.proofs.laws.parentheses.Goals as goal

pub returns : goal.returns
returns c = paren_stands
