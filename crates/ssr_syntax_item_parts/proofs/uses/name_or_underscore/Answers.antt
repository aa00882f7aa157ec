use Rattle.std.proofs.Common.{rules}
use Rattle.ssr_syntax_item_parts.specs.Uses.{name_or_underscore}
use Rattle.ssr_syntax_item_parts.proofs.uses.name_or_underscore.Goals as goal

pub returns-then-at : goal.returns-then-at
unfolding name_or_underscore
returns-then-at g c = search rules steps 3000000
