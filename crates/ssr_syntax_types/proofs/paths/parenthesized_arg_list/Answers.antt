use Rattle.std.proofs.Common.{rules}
use Rattle.ssr_syntax_types.specs.Paths.{parenthesized_arg_list}
use Rattle.ssr_syntax_forms.proofs.Shared.{run_comma_list_by}
use Rattle.ssr_syntax_types.proofs.paths.parenthesized_arg_list.Goals as goal

pub returns-in_err-comma_list : goal.returns-in_err-comma_list
unfolding parenthesized_arg_list
returns-in_err-comma_list g c = search (rules, run_comma_list_by) steps 2600000

pub returns-in_err-expect-2 : goal.returns-in_err-expect-2
unfolding parenthesized_arg_list
returns-in_err-expect-2 g c = search (rules, run_comma_list_by) steps 2800000

pub returns : goal.returns
unfolding parenthesized_arg_list
returns g c = search (rules, run_comma_list_by) steps 4400000
