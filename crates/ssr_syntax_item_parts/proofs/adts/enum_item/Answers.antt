use Rattle.std.proofs.Common.{rules}
use Rattle.ssr_syntax_item_parts.specs.Adts.{enum_item}
use Rattle.ssr_syntax_item_parts.proofs.adts.enum_item.Goals as goal

pub returns : goal.returns
unfolding enum_item
returns g c = rw (c.in_ok-expect.ensures, c.in_ok-name.ensures, c.in_ok-generic_params.ensures, c.in_ok-wheres.ensures, c.in_ok-variant_list.ensures) (search (rules, c.complete.ensures) steps 100000)
