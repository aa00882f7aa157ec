use Rattle.std.proofs.Common.{◌≡◌, ◌||◌, ℕ, List, drop}
use Rattle.std.specs.List.{list_any}
use Rattle.ssr_syntax_tree.specs.Places.{nodes_of}
use Rattle.ide_ssr_resolved_rule.specs.Names.{has}
use Rattle.ide_ssr_rules.specs.MacroCalls.{is_tree_with}
use Rattle.ide_ssr_resolved_rule.specs.StandIns.{stand_in_of}
use Rattle.ide_ssr_rules.proofs.macro_calls.with_pattern.Given as goal

abbrev pub invariant-loop-number : goal.invariant-loop-number
invariant-loop-number l = (name : List ℕ) → (has l.names name || list_any (is_tree_with (stand_in_of name)) (drop l.number (nodes_of l.pattern)))
    ≡ (has l.fn.names name || list_any (is_tree_with (stand_in_of name)) (nodes_of l.pattern))
