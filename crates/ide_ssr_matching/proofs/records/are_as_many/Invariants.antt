use Rattle.std.proofs.Common.{◌≡◌, length}
use Rattle.std.specs.Prelude.{◌==◌}
use Rattle.ssr_syntax_tree.specs.Places.{node_of}
use Rattle.ide_ssr_matching.specs.Calls.{child_nodes}
use Rattle.ide_ssr_matching.proofs.records.are_as_many.Given as goal

abbrev pub invariant-loop-node : goal.invariant-loop-node
invariant-loop-node l =
    (length l._node-iterator == length l.others)
    ≡ (length (child_nodes (node_of l.pattern l.fn.p.0)) == length (child_nodes (node_of l.code l.fn.c.0)))
