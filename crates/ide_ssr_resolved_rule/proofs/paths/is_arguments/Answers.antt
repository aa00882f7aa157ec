use Rattle.std.proofs.Common.{rules}
use Rattle.ide_ssr_resolved_rule.proofs.paths.is_arguments.Goals as goal

pub returns-in_default : goal.returns-in_default
returns-in_default c = search rules steps 2000000

pub returns-in-GENERIC_ARG_LIST : goal.returns-in-GENERIC_ARG_LIST
returns-in-GENERIC_ARG_LIST c = search rules steps 500000
