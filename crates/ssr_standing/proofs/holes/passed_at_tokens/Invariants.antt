use Rattle.std.proofs.Common.{◌≡◌, ◌≤◌, ◌+◌, ℕ, drop, map}
use Rattle.ssr_syntax_tree.specs.Places.{offset_of}
use Rattle.ssr_base_trees.specs.Origins.{span_of}
use Rattle.ssr_standing.specs.Around.{passed}
use Rattle.ssr_standing.specs.Private.Holes.{ArePassed}
use Rattle.ssr_standing.proofs.holes.passed_at_tokens.Given as goal

abbrev pub invariant-loop-number : goal.invariant-loop-number
invariant-loop-number l = record {
  table : ArePassed l.tree (map span_of l.places) l.number l.table.items;
  known : (byte : ℕ) → offset_of l.tree l.number ≤ byte
      → l.count + passed (drop l.count (map span_of l.places)) byte ≡ passed (map span_of l.places) byte;
}
