use Rattle.std.proofs.Common.{rules}
use Rattle.ssr_syntax_item_parts.specs.Params.{generic_params}
use Rattle.ssr_syntax_item_parts.proofs.params.generic_params.Goals as goal

pub returns-then-at_any : goal.returns-then-at_any
unfolding generic_params
returns-then-at_any g c = search rules steps 200000
