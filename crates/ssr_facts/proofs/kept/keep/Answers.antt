use Rattle.std.specs.BTreeMap.{get}
use Rattle.std.specs.Ordering.{nat_cmp}
use Rattle.std.proofs.Common.{Some}
use Rattle.ssr_facts.proofs.Best.{kept_covered, kept_beside, put_in, is_put, others_stay}
use Rattle.ssr_facts.proofs.kept.keep.Goals as goal

pub returns : goal.returns
returns c =
    let before = get nat_cmp c.args.kept.now in
    let left = get nat_cmp c.take_worse_out.new.kept in
    let after = get nat_cmp c.insert.new.self in
    let changed = c.in_ok-insert.ensures.updates.0 in
    λ begun known.
    let beside = kept_beside before begun known c.args.scope (c.is_covered.ensures.no c.if-is_covered.false begun known) in
    put_in left after begun c.args.scope (c.take_worse_out.ensures.kept begun beside) (c.take_worse_out.ensures.better begun beside)
    (is_put left after c.args.scope.end (Some c.args.scope) changed) (others_stay left after c.args.scope.end (Some c.args.scope) changed)

pub returns-then-is_covered : goal.returns-then-is_covered
returns-then-is_covered c =
    λ begun known. kept_covered (get nat_cmp c.args.kept.now) begun known c.args.scope (c.is_covered.ensures.yes c.if-is_covered.true)
