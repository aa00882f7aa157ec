use Rattle.std.proofs.Common.{rules}
use Rattle.ssr_syntax_item_parts.specs.Uses.{use_item}
use Rattle.ssr_syntax_item_parts.proofs.uses.use_item.Goals as goal

pub returns : goal.returns
unfolding use_item
returns g c = rw (c.in_ok-expect.ensures, c.in_ok-read.ensures, c.in_ok-expect-2.ensures) (search (rules, c.complete.ensures) steps 100000)
