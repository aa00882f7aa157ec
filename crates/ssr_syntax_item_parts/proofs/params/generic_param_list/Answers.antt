use Rattle.std.proofs.Common.{rules}
use Rattle.ssr_syntax_item_parts.specs.Params.{generic_param_list}
use Rattle.ssr_syntax_forms.proofs.Shared.{run_comma_list_by}
use Rattle.ssr_syntax_item_parts.proofs.params.generic_param_list.Goals as goal

pub returns : goal.returns
unfolding generic_param_list
returns g c = search (rules, run_comma_list_by) steps 3000000
