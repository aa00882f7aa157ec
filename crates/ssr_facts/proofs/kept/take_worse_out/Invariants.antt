use Rattle.std.proofs.Common.{List}
use Rattle.std.specs.BTreeMap.{get, btree_map_len}
use Rattle.std.specs.Ordering.{nat_cmp}
use Rattle.ssr_facts.specs.declared.scopes.Scope.{Scope}
use Rattle.ssr_facts.specs.Private.Scopes.{IsKeptBeside}
use Rattle.ssr_facts.proofs.kept.take_worse_out.Given as goal

abbrev pub invariant-loop-end : goal.invariant-loop-end
invariant-loop-end l =
    (begun : List Scope) → IsKeptBeside (get nat_cmp l.initial.kept) begun l.scope → IsKeptBeside (get nat_cmp l.kept) begun l.scope

abbrev pub decreases-loop-end : goal.decreases-loop-end
decreases-loop-end l = btree_map_len l.kept
