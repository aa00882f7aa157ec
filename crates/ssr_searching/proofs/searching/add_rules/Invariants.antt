use Rattle.std.proofs.Common.{◌≡◌, ◌++◌, List, Ok, map, string_bytes, take}
use Rattle.ssr_searching.specs.Private.Searching.{reading_of}
use Rattle.ssr_searching.specs.Searching.{rules_reading}
use Rattle.ide_ssr_resolved_rule.specs.Resolved.{ResolvedRule}
use Rattle.ssr_searching.proofs.searching.add_rules.Given as goal

abbrev pub invariant-loop-rule : goal.invariant-loop-rule
invariant-loop-rule g l =
    (kinds : List ResolvedRule)
    × (rules_reading (reading_of l.kinds) (g.S.Semantics.meanings l.initial.finder.semantics) l.initial.finder.context.scope (take l.rule-index (map string_bytes l.rules)) ≡ Ok kinds)
    × (l.finder ≡ record l.initial.finder { rules = l.initial.finder.rules ++ kinds })
