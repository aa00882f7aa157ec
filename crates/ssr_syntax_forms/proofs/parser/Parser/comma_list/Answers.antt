use Rattle.std.proofs.Common.{rules}
use Rattle.ssr_syntax_forms.specs.Parser.{comma_separated}
use Rattle.ssr_syntax_forms.proofs.parser.Parser.comma_list.Goals as goal

pub returns : goal.returns
unfolding comma_separated
returns g c = search rules steps 600000
