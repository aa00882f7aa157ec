use Rattle.std.proofs.Common.{◌∙◌, ◌+◌, ◌||◌, ap, drop, sym, arith}
use Rattle.std.proofs.Math.Bool.{or-false}
use Rattle.std.proofs.lemmas.List.{drop_all}
use Rattle.std.specs.List.{list_any}
use Rattle.ssr_syntax_tree.specs.Places.{node_of, nodes_of}
use Rattle.ssr_syntax_tree.proofs.Shared.{node_left, length-nodes_of}
use Rattle.ide_ssr_resolved_rule.specs.Names.{has}
use Rattle.ide_ssr_rules.specs.MacroCalls.{is_tree_with, in_token_tree}
use Rattle.ide_ssr_rules.specs.Private.MacroCalls.{in_node}
use Rattle.ide_ssr_resolved_rule.specs.StandIns.{stand_in_of}
use Rattle.ide_ssr_rules.proofs.CalledNames.{also_next}
use Rattle.ide_ssr_rules.proofs.macro_calls.with_pattern.Goals as goal

pub loop-number-preserved : goal.loop-number-preserved
loop-number-preserved c = λ name.
    let tree = c.args.pattern.now in
    let n = c.loop-number.number in
    let left = drop (n + 1) (nodes_of tree) in
    also_next c.loop-number.names c.in_ok-names.names (in_node (node_of tree n)) name (list_any (is_tree_with (stand_in_of name)) left) c.in_ok-names.ensures
    ∙ ap (λ ns. has c.loop-number.names name || list_any (is_tree_with (stand_in_of name)) ns) (sym (node_left tree n (omega arith)))
    ∙ c.loop-number.invariant name

pub returns : goal.returns
unfolding in_token_tree
returns c = λ name.
    let tree = c.args.pattern.now in
    let n = c.loop-number.number in
    sym (or-false (has c.loop-number.names name))
    ∙ ap (λ ns. has c.loop-number.names name || list_any (is_tree_with (stand_in_of name)) ns) (sym (drop_all n (nodes_of tree) (omega (arith, length-nodes_of tree))))
    ∙ c.loop-number.invariant name
