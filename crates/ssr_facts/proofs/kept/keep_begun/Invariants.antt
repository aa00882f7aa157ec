use Rattle.std.proofs.Common.{◌≡◌, ℕ, ◌-◌, ◌<◌, ◌≤◌, length, take, Some}
use Rattle.std.specs.Prelude.{slice_get}
use Rattle.std.specs.BTreeMap.{get}
use Rattle.std.specs.Ordering.{nat_cmp}
use Rattle.ssr_facts.specs.declared.scopes.Scope.{Scope}
use Rattle.ssr_facts.specs.Private.Scopes.{IsKept}
use Rattle.ssr_facts.proofs.kept.keep_begun.Given as goal

abbrev pub invariant-loop-past : goal.invariant-loop-past
invariant-loop-past l = record {
  behind : l.next ≤ l.past;
  within : l.past ≤ length l.scopes;
  kept : IsKept (get nat_cmp l.initial.kept) (take l.next l.scopes) → IsKept (get nat_cmp l.kept) (take l.past l.scopes);
  begun : (k : ℕ) (v : Scope) → l.next ≤ k → k < l.past → slice_get l.scopes k ≡ Some v → v.start ≤ l.start;
}

abbrev pub decreases-loop-past : goal.decreases-loop-past
decreases-loop-past l = length l.scopes - l.past
