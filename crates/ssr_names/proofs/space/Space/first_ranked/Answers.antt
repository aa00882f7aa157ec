use Rattle.std.proofs.Common.{rules, List, subst, sym, true, false, ◌≡◌}
use Rattle.std.specs.List.Sorted.{IsPartitionedBy, IsPartitionPoint}
use Rattle.std.proofs.lemmas.List.Sorted.{IsPartitionPoint-from_clause}
use Rattle.ssr_names_items.specs.declared.table.Entry.{Entry}
use Rattle.ssr_names.specs.Private.Answered.{is_before}
use Rattle.ssr_names.proofs.LookingUp.{before_parts}
use Rattle.ssr_names.proofs.space.Space.first_ranked.Goals as goal

pub returns-clause-point : goal.returns-clause-point
returns-clause-point c = λ ordered.
    let r = c.args.rank in
    subst (λ (l : List Entry). IsPartitionPoint (λ (e : Entry). is_before e r ≡ true) (λ (e : Entry). is_before e r ≡ false) l c.partition_point.result) c.deref.ensures.value
    (IsPartitionPoint-from_clause (λ (e : Entry). is_before e r) _ c.partition_point.result c.partition_point.ensures.partitioned
    (subst (IsPartitionedBy (λ (e : Entry). is_before e r)) (sym c.deref.ensures.value) (before_parts _ ordered.in_order r))
    (λ a q f' k. search rules))
