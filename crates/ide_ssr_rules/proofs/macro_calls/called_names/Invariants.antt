use Rattle.std.proofs.Common.{◌≡◌, ◌||◌, ℕ, List, drop}
use Rattle.ide_ssr_resolved_rule.specs.Names.{has}
use Rattle.ide_ssr_rules.specs.MacroCalls.{in_macro_call}
use Rattle.ide_ssr_rules.proofs.macro_calls.called_names.Given as goal

abbrev pub invariant-loop-kind : goal.invariant-loop-kind
invariant-loop-kind l = (name : List ℕ) → (has l.names name || in_macro_call (drop l.kind-index l.kinds) name) ≡ in_macro_call l.kinds name
