use Rattle.std.proofs.Common.{rules}
use Rattle.ssr_syntax_types.specs.Paths.{simple_path}
use Rattle.ssr_syntax_forms.proofs.Shared.{run_as_long_as}
use Rattle.ssr_syntax_types.proofs.paths.simple_path.Goals as goal

pub returns-in_err-plain_path : goal.returns-in_err-plain_path
unfolding simple_path
returns-in_err-plain_path g c = search (rules, run_as_long_as) steps 500000

pub returns : goal.returns
unfolding simple_path
returns g c = search (rules, run_as_long_as) steps 2400000
