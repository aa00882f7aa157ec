use Rattle.std.proofs.Common.{◌≡◌, length}
use Rattle.ssr_syntax_lex.specs.Scan.{past_raw}
use Rattle.ssr_syntax_lex.proofs.scan.eat_raw.Given as goal

abbrev pub invariant-loop-c : goal.invariant-loop-c
invariant-loop-c l = past_raw l.hashes l.cursor ≡ past_raw l.hashes l.fn.cursor

abbrev pub decreases-loop-c : goal.decreases-loop-c
decreases-loop-c l = length l.cursor
