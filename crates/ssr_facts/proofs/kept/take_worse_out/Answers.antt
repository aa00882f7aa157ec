use Rattle.std.proofs.Common.{None}
use Rattle.std.specs.BTreeMap.{get}
use Rattle.std.specs.Ordering.{nat_cmp}
use Rattle.ssr_facts.proofs.Best.{taken_out, was_there, others_stay}
use Rattle.ssr_facts.proofs.kept.take_worse_out.Goals as goal

pub loop-end-preserved : goal.loop-end-preserved
loop-end-preserved c =
    let changed = c.remove.ensures.updates.0 in
    λ begun known. taken_out (get nat_cmp c.loop-end.kept) (get nat_cmp c.remove.new.self) begun c.args.scope.now c.in-Some.end
    (c.loop-end.invariant begun known) c.in-Some.ensures.worse
    (was_there (get nat_cmp c.loop-end.kept) (get nat_cmp c.remove.new.self) c.in-Some.end changed)
    (others_stay (get nat_cmp c.loop-end.kept) (get nat_cmp c.remove.new.self) c.in-Some.end None changed)
