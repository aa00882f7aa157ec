use Rattle.std.proofs.Common.{rules, not, subst, sym, true, false, ◌≡◌}
use Rattle.std.specs.List.Sorted.{IsPartitionedBy, IsPartitionPoint}
use Rattle.std.proofs.lemmas.List.Sorted.{IsPartitionPoint-from_clause}
use Rattle.ide_ssr_nesting.specs.Lists.{Listing}
use Rattle.ide_ssr_nesting.specs.Private.Rows.{comes_before}
use Rattle.ide_ssr_nesting.proofs.Listed.{behind_parts}
use Rattle.ide_ssr_nesting.proofs.lists.Lists.end_of.Goals as goal

pub returns-clause-point : goal.returns-clause-point
returns-clause-point c =
    let h = c.args.holder in
    subst (λ (l : Listing). IsPartitionPoint (λ g. not (comes_before h g) ≡ true) (λ g. not (comes_before h g) ≡ false) l.holders c.partition_point.result) c.self.view_is
    (subst (λ l. IsPartitionPoint (λ g. not (comes_before h g) ≡ true) (λ g. not (comes_before h g) ≡ false) l c.partition_point.result) c.deref.ensures.value
    (IsPartitionPoint-from_clause (λ g. not (comes_before h g)) _ c.partition_point.result c.partition_point.ensures.partitioned
    (subst (IsPartitionedBy (λ g. not (comes_before h g))) (sym c.deref.ensures.value) (behind_parts _ c.self.invariant.in_order h))
    (λ a r f' k. search rules)))
