use Rattle.std.proofs.Common.{◌≡◌, ℕ, take}
use Rattle.std.specs.Ordering.{nat_cmp}
use Rattle.ssr_facts.specs.Grouping.{group_at}
use Rattle.ssr_facts.specs.Private.Scopes.{scopes_in}
use Rattle.ssr_facts.proofs.scopes.scopes_by_tree.Given as goal

abbrev pub invariant-loop-number : goal.invariant-loop-number
invariant-loop-number l = (t : ℕ) → group_at nat_cmp l.by_tree t ≡ scopes_in t 0 (take l.number l.rows)
