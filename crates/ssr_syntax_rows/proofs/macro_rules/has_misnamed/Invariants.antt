use Rattle.std.proofs.Common.{◌≡◌, drop}
use Rattle.std.specs.List.{list_any}
use Rattle.ssr_syntax_tree.specs.Places.{nodes_of}
use Rattle.ssr_syntax_rows.specs.MacroRules.{is_misnamed}
use Rattle.ssr_syntax_rows.proofs.macro_rules.has_misnamed.Given as goal

abbrev pub invariant-loop-number : goal.invariant-loop-number
invariant-loop-number l = list_any (is_misnamed l.kind l.word) (drop l.number (nodes_of l.tree)) ≡ list_any (is_misnamed l.kind l.word) (nodes_of l.tree)
