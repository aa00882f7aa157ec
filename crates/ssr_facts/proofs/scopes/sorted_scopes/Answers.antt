use Rattle.std.proofs.Common.{rules}
use Rattle.std.proofs.lemmas.List.Sorted.{IsNonDecreasingBy-from_sort_by_key}
use Rattle.ssr_facts.specs.declared.scopes.Scope.{Scope}
use Rattle.ssr_facts.proofs.scopes.sorted_scopes.Goals as goal

pub returns-in_ok-sort_by_key-in-Some-clause-sorted : goal.returns-in_ok-sort_by_key-in-Some-clause-sorted
returns-in_ok-sort_by_key-in-Some-clause-sorted c =
    IsNonDecreasingBy-from_sort_by_key (λ (scope : Scope). scope.start) _ c.in_ok-sort_by_key-in-Some.ensures.sorted (λ a r q k. search rules)
