use Rattle.std.proofs.Common.{rules}
use Rattle.ssr_syntax_forms.proofs.parser.Parser.new.Goals as goal

pub returns : goal.returns
returns c = search rules steps 340000

pub returns-in_err-rows : goal.returns-in_err-rows
returns-in_err-rows c = search rules steps 400000
