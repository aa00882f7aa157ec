use Rattle.std.proofs.Common.{◌≡◌, ◌++◌, All, reverse, vec_len}
use Rattle.ide_ssr_rewriting.proofs.editing.take_group.Given as goal

abbrev pub invariant-loop-rewrite : goal.invariant-loop-rewrite
invariant-loop-rewrite l = record {
  is : l.fn.list.items ≡ l.list.items ++ reverse l.group.items;
  file : All (λ r. r.range.file ≡ l.file.0) (reverse l.group.items);
}

abbrev pub decreases-loop-rewrite : goal.decreases-loop-rewrite
decreases-loop-rewrite l = vec_len l.list
