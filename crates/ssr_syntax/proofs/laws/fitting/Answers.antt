use Rattle.ssr_syntax.specs.Grammar.{grammar}
use Rattle.ssr_syntax.specs.Decision.{goals_in_a_row}
use Rattle.ssr_syntax.proofs.Checks.{tables}
use Rattle.ssr_syntax_kinds.specs.declared.reach.Reach.TheVariants.{Stated}
use Rattle.ssr_syntax_forms.proofs.Shared.{decided, answers}
use Rattle.ssr_syntax.proofs.FitsHere.{grammar_lone}
use Rattle.ssr_syntax.proofs.laws.fitting.Goals as goal

pub returns : goal.returns
returns c = record {
  decided = decided grammar (tables Stated).rank goals_in_a_row grammar_lone;
  answers = answers grammar (tables Stated).rank goals_in_a_row grammar_lone;
}
