use Rattle.std.proofs.Common.{rules, subst, sym, true, false, ◌≡◌}
use Rattle.std.specs.List.Sorted.{IsPartitionedBy, IsPartitionPoint}
use Rattle.std.proofs.lemmas.List.Sorted.{IsPartitionPoint-from_clause}
use Rattle.ide_ssr_nesting.specs.Lists.{Listing}
use Rattle.ide_ssr_nesting.specs.Private.Rows.{comes_before}
use Rattle.ide_ssr_nesting.proofs.Listed.{before_parts}
use Rattle.ide_ssr_nesting.proofs.lists.Lists.start_of.Goals as goal

pub returns-clause-point : goal.returns-clause-point
returns-clause-point c =
    let h = c.args.holder in
    subst (λ (l : Listing). IsPartitionPoint (λ g. comes_before g h ≡ true) (λ g. comes_before g h ≡ false) l.holders c.partition_point.result) c.self.view_is
    (subst (λ l. IsPartitionPoint (λ g. comes_before g h ≡ true) (λ g. comes_before g h ≡ false) l c.partition_point.result) c.deref.ensures.value
    (IsPartitionPoint-from_clause (λ g. comes_before g h) _ c.partition_point.result c.partition_point.ensures.partitioned
    (subst (IsPartitionedBy (λ g. comes_before g h)) (sym c.deref.ensures.value) (before_parts _ c.self.invariant.in_order h))
    (λ a r f' k. search rules)))
