use Rattle.std.proofs.Common.{take}
use Rattle.ssr_base_trees.specs.Workspace.{trees}
use Rattle.ssr_names.specs.Private.Locals.{StaysBound, BindAmong}
use Rattle.ssr_names.proofs.locals.bind_among.Given as goal

abbrev pub invariant-loop-node : goal.invariant-loop-node
invariant-loop-node l = record {
  kept : StaysBound l.fn.bound l.bound;
  bound : BindAmong (trees l.trees) l.bound (take l.node-index l.nodes) l.name;
}
