use Rattle.std.proofs.Common.{rules}
use Rattle.ssr_syntax_forms.proofs.Ahead.{last_told}
use Rattle.ssr_syntax_forms.proofs.tokens.last_isnt.Goals as goal

pub returns-in-Some : goal.returns-in-Some
returns-in-Some g c = search (rules, last_told) steps 300000

pub returns-in-None : goal.returns-in-None
returns-in-None g c = search (rules, last_told) steps 240000
