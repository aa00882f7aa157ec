use Rattle.std.proofs.Common.{sym, arith}
use Rattle.ssr_base_trees.specs.Workspace.{trees, node_id}
use Rattle.ssr_base_trees.proofs.Shared.{is_up}
use Rattle.ide_ssr_search.proofs.Placed.{file_bounds}
use Rattle.ide_ssr_search.proofs.bounds.Bounds.of.Goals as goal

pub of_call-requires : goal.of_call-requires
of_call-requires c = (is_up (trees c.args.workspace.now) (node_id c.args.tree 0) c.in-Some.call c.file_count.ensures.built.grown (sym c.in-Some.ensures)).node

pub returns-then-tree-file_count : goal.returns-then-tree-file_count
returns-then-tree-file_count c = file_bounds c.args.workspace.now c.args.tree (omega (arith, c.if-tree-file_count.true, c.file_count.ensures.count)) c.requires
