use Rattle.std.proofs.Common.{◌≡◌, ◌+◌, ◌<◌, ◌^◌, drop, length}
use Rattle.ssr_syntax_lex.specs.Scan.{past_comments}
use Rattle.ssr_syntax_lex.proofs.scan.eat_block_comment.Given as goal

abbrev pub invariant-loop-depth : goal.invariant-loop-depth
invariant-loop-depth l = record {
  goes_on : past_comments l.depth l.cursor ≡ past_comments 1 (drop 2 l.fn.cursor);
  few : l.depth + length l.cursor < 2 ^ 32;
}

abbrev pub decreases-loop-depth : goal.decreases-loop-depth
decreases-loop-depth l = length l.cursor
