use Rattle.std.proofs.Common.{rules}
use Rattle.ssr_syntax_item_parts.specs.Params.{wheres}
use Rattle.ssr_syntax_item_parts.proofs.params.wheres.Goals as goal

pub returns-then-at : goal.returns-then-at
unfolding wheres
returns-then-at g c = search rules steps 3000000
