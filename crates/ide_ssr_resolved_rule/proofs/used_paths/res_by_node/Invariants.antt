use Rattle.std.proofs.Common.{◌≡◌, ◌+◌, length, take}
use Rattle.ssr_syntax_tree.specs.Syntax.{node_count}
use Rattle.ide_ssr_resolved_rule.specs.Private.Marks.{TellsRes}
use Rattle.ide_ssr_resolved_rule.proofs.used_paths.res_by_node.Given as goal

abbrev pub invariant-loop-path : goal.invariant-loop-path
invariant-loop-path l = record {
  told : TellsRes (take l.path-index l.paths) l.table.items;
  long : length l.table.items ≡ 1 + node_count l.fn.tree.children;
}
