use Rattle.std.proofs.Common.{rules}
use Rattle.ssr_syntax_item_parts.specs.Adts.{struct_item}
use Rattle.ssr_syntax_item_parts.proofs.adts.struct_item.Goals as goal

pub returns : goal.returns
unfolding struct_item
returns g c = rw (c.in_ok-expect.ensures, c.in_ok-name.ensures, c.in_ok-generic_params.ensures, c.in_ok-struct_rest.ensures) (search (rules, c.complete.ensures) steps 100000)
