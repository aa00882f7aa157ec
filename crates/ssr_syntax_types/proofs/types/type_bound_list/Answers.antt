use Rattle.std.proofs.Common.{rules}
use Rattle.ssr_syntax_types.specs.Types.{type_bound_list}
use Rattle.ssr_syntax_types.proofs.types.type_bound_list.Goals as goal

pub returns-in_err-refuse_at : goal.returns-in_err-refuse_at
unfolding type_bound_list
returns-in_err-refuse_at g c = search rules steps 3000000

pub returns : goal.returns
unfolding type_bound_list
returns g c = search rules steps 6000000
