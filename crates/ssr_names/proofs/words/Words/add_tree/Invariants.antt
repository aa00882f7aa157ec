use Rattle.std.proofs.Common.{ℕ, ◌<◌}
use Rattle.ssr_base_trees.specs.Workspace.{node_id}
use Rattle.ssr_names.specs.Private.Locals.{Keeps, Collects}
use Rattle.ssr_names.proofs.words.Words.add_tree.Given as goal

abbrev pub invariant-loop-place : goal.invariant-loop-place
invariant-loop-place l = record {
  kept : Keeps l.fn.self l.self;
  collected : (n : ℕ) → n < l.place → Collects l.tree l.self (node_id l.number n);
}
