use Rattle.std.proofs.Common.{rules}
use Rattle.ssr_syntax_exprs.specs.Conditions.{conjunction_end}
use Rattle.ssr_syntax_forms.proofs.Shared.{run_decide}
use Rattle.ssr_syntax_exprs.proofs.conditions.conjunction_end.Goals as goal

pub returns-then-at_two : goal.returns-then-at_two
unfolding conjunction_end
returns-then-at_two g c = search (rules, run_decide) steps 3000000

pub returns-else-at_two : goal.returns-else-at_two
unfolding conjunction_end
returns-else-at_two g c = search (rules, run_decide) steps 3000000
