use Rattle.ssr_syntax_kinds.specs.declared.reach.Reach.TheVariants.{Stated}
use Rattle.ssr_syntax.proofs.Checks.{goal_bounded}
use Rattle.ssr_syntax.proofs.Operands.{precedence_kept}
use Rattle.ssr_syntax.proofs.laws.operands.Goals as goal

pub returns : goal.returns
returns c = record { stated = precedence_kept Stated (goal_bounded Stated); of_reach = λ reach. precedence_kept reach (goal_bounded reach) }
