use Rattle.std.proofs.Common.{rules}
use Rattle.ssr_syntax_item_parts.specs.Params.{param_list}
use Rattle.ssr_syntax_item_parts.proofs.params.param_list.Goals as goal

pub returns : goal.returns
unfolding param_list
returns g c = rw (c.in_ok-expect.ensures, c.in_ok-any_params.ensures, c.in_ok-expect-2.ensures) (search (rules, rw c.start-m.ensures at c.complete.ensures) steps 100000)
