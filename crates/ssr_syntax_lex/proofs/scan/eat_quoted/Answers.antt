use Rattle.std.proofs.Common.{rules}
use Rattle.ssr_syntax_lex.proofs.ScanSteps.{escape_takes_one}
use Rattle.ssr_syntax_lex.proofs.scan.eat_quoted.Goals as goal

pub loop-c-preserved-in-92 : goal.loop-c-preserved-in-92
loop-c-preserved-in-92 c = search (rules, escape_takes_one) steps 220000
