use Rattle.std.proofs.Common.{rules}
use Rattle.ssr_syntax_forms.proofs.parser.Parser.refuse_since.Goals as goal

pub returns : goal.returns
returns g c = search rules steps 114000

pub returns-then-not-none_is : goal.returns-then-not-none_is
returns-then-not-none_is g c = search rules steps 142000
