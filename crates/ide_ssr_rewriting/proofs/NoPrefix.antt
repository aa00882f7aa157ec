-- What is written in front of what a placeholder holds.
use Rattle.std.proofs.Common.{◌≡◌, ℕ, zero, suc, ◌≤◌, Bool, true, false, List, [], Option, Some, None, refl, arith}
use Rattle.std.specs.Prelude.{if◌then◌else◌, replicate, slice_get}
use Rattle.std.specs.Option.{option_map_or}
use Rattle.ide_ssr_resolved_rule.specs.Receivers.{is_receiver}
use Rattle.ide_ssr_resolved_rule.specs.Resolved.{ResolvedRule}
use Rattle.ide_ssr_bindings.specs.declared.bindings.Binding.{Binding}
use Rattle.ide_ssr_rewriting.specs.Replacements.{prefix, prefix_by}

pub no_stars : (n : ℕ) → n ≤ 0 → replicate {A = ℕ} n 42 ≡ []
no_stars zero le = refl
no_stars (suc n) le = absurd (omega arith)

-- where a binding has nothing in front, nothing is written there by any rule
pub no_prefix : (rules : List ResolvedRule) (r : ℕ) (b : Binding) → prefix b ≡ [] → prefix_by rules r b ≡ []
unfolding prefix_by
no_prefix rules r b none = at (slice_get rules r)
  where
    either : (is : Bool) → (if is then [] else prefix b) ≡ []
    either true = refl
    either false = none

    at : (rule : Option ResolvedRule) → option_map_or (λ rule. if is_receiver rule b.placeholder then [] else prefix b) rule [] ≡ []
    at None = refl
    at (Some rule) = either (is_receiver rule b.placeholder)
