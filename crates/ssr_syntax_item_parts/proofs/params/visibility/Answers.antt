use Rattle.std.proofs.Common.{rules}
use Rattle.ssr_syntax_item_parts.specs.Params.{visibility}
use Rattle.ssr_syntax_item_parts.proofs.params.visibility.Goals as goal

pub returns : goal.returns
unfolding visibility
returns g c = search rules
