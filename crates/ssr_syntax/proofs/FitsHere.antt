-- Fitting is decided for this grammar.
use Rattle.ssr_syntax.specs.Grammar.{grammar}
use Rattle.ssr_syntax.specs.Decision.{goals_in_a_row}
use Rattle.ssr_syntax.proofs.Checks.{tables, goal_covered, goal_ranked, goal_makes_node, goal_lone_marks}
use Rattle.ssr_syntax_kinds.specs.declared.reach.Reach.TheVariants.{Stated}
use Rattle.ssr_syntax_forms.proofs.Shared.{IsLone}

pub grammar_lone : IsLone grammar (tables Stated).rank goals_in_a_row
grammar_lone = record { goals = goal_makes_node Stated; marks = goal_lone_marks Stated; covers = goal_covered Stated; few = goal_ranked Stated }
