use Rattle.std.proofs.Common.{◌≡◌, ℕ, length, Some}
use Rattle.std.specs.Prelude.{slice_get}
use Rattle.ide_ssr_resolved_rule.specs.Resolved.{ResolvedRule}
use Rattle.ide_ssr_search.specs.declared.roots.Asked.{Asked}
use Rattle.ide_ssr_search.specs.Private.Roots.{IsAskedBy}
use Rattle.ide_ssr_search.proofs.roots.Rules.new.Given as goal

abbrev pub invariant-loop-rule : goal.invariant-loop-rule
invariant-loop-rule l = record {
  counted : length l.asked.items ≡ l.rule-index;
  each : (n : ℕ) (rule : ResolvedRule) (asked : Asked) → slice_get l.rules n ≡ Some rule → slice_get l.asked.items n ≡ Some asked → IsAskedBy rule asked;
}
