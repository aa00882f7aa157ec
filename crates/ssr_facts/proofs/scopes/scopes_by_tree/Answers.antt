use Rattle.std.proofs.Common.{arith}
use Rattle.std.proofs.lemmas.Option.{slice_get-get_or}
use Rattle.std.specs.Ordering.{nat_cmp}
use Rattle.ssr_facts.specs.Grouping.{group_at}
use Rattle.ssr_facts.proofs.Sweep.{scopes_more}
use Rattle.ssr_facts.proofs.scopes.scopes_by_tree.Goals as goal

pub loop-number-preserved : goal.loop-number-preserved
loop-number-preserved c =
    λ t. scopes_more t c.args.rows.now c.loop-number.number _ (group_at nat_cmp c.loop-number.by_tree t) (group_at nat_cmp c.add.new.groups t)
    (slice_get-get_or c.args.rows.now c.loop-number.number _ (omega arith)) (c.loop-number.invariant t) (c.in_ok-add.ensures t)
