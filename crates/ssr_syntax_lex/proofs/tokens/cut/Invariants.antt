use Rattle.std.proofs.Common.{length}
use Rattle.std.specs.Simd.Lanes.{zip2}
use Rattle.ssr_syntax_kinds.specs.TokenRows.{row_with}
use Rattle.ssr_syntax_lex.specs.Tokens.{rows_in, fault}
use Rattle.ssr_syntax_lex.proofs.Cutting.{Cutting, HasRoom}
use Rattle.ssr_syntax_lex.proofs.tokens.cut.Given as goal

abbrev pub invariant-loop-cursor : goal.invariant-loop-cursor
invariant-loop-cursor l = record {
  cutting : Cutting (rows_in l.text) (fault l.text) l.total (zip2 row_with l.kinds.items l.starts.items) l.start l.dots l.cursor;
  room : HasRoom l.kinds l.starts l.cursor;
}

abbrev pub decreases-loop-cursor : goal.decreases-loop-cursor
decreases-loop-cursor l = length l.cursor
