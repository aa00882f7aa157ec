use Rattle.std.proofs.Common.{◌≡◌, map}
use Rattle.std.specs.Prelude.{All}
use Rattle.std.specs.List.{list_any}
use Rattle.ssr_syntax_tree.specs.Places.{node_of, part_of, parts_of, HasElement}
use Rattle.ssr_syntax_rows.specs.MacroRules.{is_other_word}
use Rattle.ssr_syntax_rows.proofs.macro_rules.has_other_word.Given as goal

abbrev pub invariant-loop-child : goal.invariant-loop-child
invariant-loop-child l = record {
  so_far : list_any (is_other_word l.word) (map (part_of l.tree) l.child-iterator) ≡ list_any (is_other_word l.word) (parts_of (node_of l.tree l.fn.node.0));
  had : All (HasElement l.tree) l.child-iterator;
}
