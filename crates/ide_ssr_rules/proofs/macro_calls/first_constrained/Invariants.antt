use Rattle.std.proofs.Common.{◌≡◌, drop}
use Rattle.ide_ssr_resolved_rule.specs.Names.{has}
use Rattle.ide_ssr_rules.specs.MacroCalls.{untested_name}
use Rattle.ide_ssr_rules.specs.StandIns.{first_of}
use Rattle.ide_ssr_rules.proofs.macro_calls.first_constrained.Given as goal

abbrev pub invariant-loop-element : goal.invariant-loop-element
invariant-loop-element l = first_of (untested_name (has l.called)) (drop l.element-index l.pattern) ≡ first_of (untested_name (has l.called)) l.pattern
