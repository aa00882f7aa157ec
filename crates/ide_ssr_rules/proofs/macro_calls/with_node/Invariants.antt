use Rattle.std.proofs.Common.{◌≡◌, ◌||◌, ℕ, List, map}
use Rattle.std.specs.List.{All, list_any}
use Rattle.ssr_syntax_tree.specs.Places.{node_of, part_of, parts_of, HasElement}
use Rattle.ide_ssr_resolved_rule.specs.Names.{has}
use Rattle.ide_ssr_rules.specs.MacroCalls.{is_spelled}
use Rattle.ide_ssr_resolved_rule.specs.StandIns.{stand_in_of}
use Rattle.ide_ssr_rules.proofs.macro_calls.with_node.Given as goal

abbrev pub invariant-loop-part : goal.invariant-loop-part
invariant-loop-part l = record {
  so_far : (name : List ℕ) → (has l.names name || list_any (is_spelled (stand_in_of name)) (map (part_of l.tree) l.part-iterator))
      ≡ (has l.fn.names name || list_any (is_spelled (stand_in_of name)) (parts_of (node_of l.tree l.fn.node.0)));
  had : All (HasElement l.tree) l.part-iterator;
}
