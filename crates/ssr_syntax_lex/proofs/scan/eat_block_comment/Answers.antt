use Rattle.std.proofs.Common.{arith, rules}
use Rattle.std.proofs.lemmas.Grind.{common_steps}
use Rattle.ssr_syntax_lex.proofs.ScanSteps.{comment_steps}
use Rattle.ssr_syntax_lex.proofs.scan.eat_block_comment.Goals as goal

pub loop-depth-preserved-then-is_pair : goal.loop-depth-preserved-then-is_pair
loop-depth-preserved-then-is_pair c = record {
  goes_on = search (rules, comment_steps) steps 220000;
  few = grind (arith, common_steps, comment_steps) steps 220000;
}
