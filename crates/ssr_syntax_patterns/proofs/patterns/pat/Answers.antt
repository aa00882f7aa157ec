use Rattle.std.proofs.Common.{rules}
use Rattle.ssr_syntax_patterns.specs.Patterns.{pat}
use Rattle.ssr_syntax_patterns.proofs.patterns.pat.Goals as goal

pub returns-in-TopLevel : goal.returns-in-TopLevel
unfolding pat
returns-in-TopLevel g c = search rules
