use Rattle.std.proofs.Common.{ap, sym}
use Rattle.ssr_syntax.specs.Reading.{error_of}
use Rattle.ssr_syntax.proofs.syntax_error.SyntaxErrorFromFault.from.Goals as goal

pub returns-in-TooDeep : goal.returns-in-TooDeep
returns-in-TooDeep c = sym (ap error_of c.in-TooDeep.is)
