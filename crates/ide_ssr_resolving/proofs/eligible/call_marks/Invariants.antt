use Rattle.std.proofs.Common.{◌≡◌, ◌+◌, length, take}
use Rattle.ssr_syntax_tree.specs.Syntax.{node_count}
use Rattle.ide_ssr_resolving.specs.Private.Marks.{MarksCalls}
use Rattle.ide_ssr_resolving.proofs.eligible.call_marks.Given as goal

abbrev pub invariant-loop-call : goal.invariant-loop-call
invariant-loop-call l = record {
  marked : MarksCalls (take l.call-index l.calls) l.marks.items;
  long : length l.marks.items ≡ 1 + node_count l.fn.tree.children;
}
