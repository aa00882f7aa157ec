use Rattle.std.proofs.Common.{◌≡◌, take}
use Rattle.ssr_syntax_tree.proofs.same.are_same_nodes.Given as goal

abbrev pub invariant-loop-number : goal.invariant-loop-number
invariant-loop-number l = take l.number l.one ≡ take l.number l.other
