use Rattle.std.proofs.Common.{refl}
use Rattle.ssr_diff.proofs.SameLines.{same_join, same_empty, some_line}
use Rattle.ssr_diff.proofs.trimming.trimmed.Goals as goal

pub returns-then-is_empty : goal.returns-then-is_empty
returns-then-is_empty c =
    let empty = c.if-is_empty.ensures.0 refl in
    same_join _ _ _ _ _ c.behind_same-from.ensures.same
    (same_join _ _ _ _ _ (same_empty _ _ _ _ c.before_same-to.ensures.left empty.0 empty.1) c.before_same-to.ensures.same)

pub returns-else-is_empty : goal.returns-else-is_empty
returns-else-is_empty c = record {
  before = c.behind_same-from.ensures.same;
  differs = c.before_same-to.ensures.left;
  behind = c.before_same-to.ensures.same;
  not_empty = some_line _ _ _ _ c.before_same-to.ensures.left.old_order c.before_same-to.ensures.left.new_order
      (λ o n. let is = c.if-is_empty.ensures.1 (o, n) in cc);
}
