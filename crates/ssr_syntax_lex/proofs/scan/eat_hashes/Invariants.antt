use Rattle.std.proofs.Common.{◌≡◌, ◌+◌, drop, length}
use Rattle.ssr_syntax_lex.specs.Characters.{is_hash}
use Rattle.ssr_syntax_lex.specs.Cursor.{run, past}
use Rattle.ssr_syntax_lex.proofs.scan.eat_hashes.Given as goal

abbrev pub invariant-loop : goal.invariant-loop
invariant-loop l = record {
  there : l.cursor ≡ drop l.counter l.fn.cursor;
  passed : past is_hash l.cursor ≡ past is_hash l.fn.cursor;
  counted : l.counter + length (run is_hash l.cursor) ≡ length (run is_hash l.fn.cursor);
}
