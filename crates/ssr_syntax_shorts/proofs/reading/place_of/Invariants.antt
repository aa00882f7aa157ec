use Rattle.std.proofs.Common.{◌≡◌, ◌*◌, ◌≤◌}
use Rattle.ssr_syntax_shorts.specs.Names.{place_of}
use Rattle.ssr_syntax_shorts.proofs.reading.place_of.Given as goal

abbrev pub invariant-loop-before : goal.invariant-loop-before
invariant-loop-before l = record {
  sum : l.number ≡ place_of l.tree l.before;
  few : l.number ≤ 3 * l.before;
}
