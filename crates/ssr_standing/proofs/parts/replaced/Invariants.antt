use Rattle.std.proofs.Common.{◌≡◌, ◌++◌, drop, string_bytes}
use Rattle.std.specs.Prelude.{IsCharBoundary}
use Rattle.ssr_base_trees.specs.Changes.{replaced}
use Rattle.ssr_base_trees.specs.Applied.{changes_of}
use Rattle.ssr_standing.proofs.parts.replaced.Given as goal

abbrev pub invariant-loop-change : goal.invariant-loop-change
invariant-loop-change l = record {
  written : string_bytes l.new ++ replaced l.text l.at l.range.end (drop l.change-index (changes_of l.changes))
      ≡ replaced l.text l.range.start l.range.end (changes_of l.changes);
  place : IsCharBoundary l.text l.at;
}
