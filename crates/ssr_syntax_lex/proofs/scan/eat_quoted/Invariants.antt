use Rattle.std.proofs.Common.{◌≡◌, false, length}
use Rattle.ssr_syntax_lex.specs.Scan.{past_quoted}
use Rattle.ssr_syntax_lex.proofs.scan.eat_quoted.Given as goal

abbrev pub invariant-loop-c : goal.invariant-loop-c
invariant-loop-c l = past_quoted false l.cursor ≡ past_quoted false l.fn.cursor

abbrev pub decreases-loop-c : goal.decreases-loop-c
decreases-loop-c l = length l.cursor
