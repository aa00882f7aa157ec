use Rattle.std.proofs.Common.{rules}
use Rattle.ssr_syntax_exprs.specs.GenericArgs.{generic_arg_list}
use Rattle.ssr_syntax_forms.proofs.Shared.{run_comma_list_by}
use Rattle.ssr_syntax_exprs.proofs.generic_args.generic_arg_list.Goals as goal

pub returns : goal.returns
unfolding generic_arg_list
returns g c = search (rules, run_comma_list_by) steps 3000000
