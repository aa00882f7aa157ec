use Rattle.std.proofs.Common.{◌≡◌, [], map}
use Rattle.std.specs.Prelude.{None}
use Rattle.ssr_standing.specs.Expansions.{opening, with_first}
use Rattle.ssr_base_trees.specs.Origins.{span_of}
use Rattle.ssr_standing.specs.Ranges.{old_place}
use Rattle.ssr_standing.specs.Private.Spelling.{shown}
use Rattle.ssr_standing.proofs.expansions.spelled.Given as goal

abbrev pub invariant-loop-token : goal.invariant-loop-token
invariant-loop-token l = record {
  so_far : shown l.speller ≡ with_first l.trees l.edit l.number l.tree (record { text = opening l.tree.kind; places = []; behind = None; change = None }) l.token;
  places : map span_of l.passing.places.now ≡ map old_place l.edit;
}
