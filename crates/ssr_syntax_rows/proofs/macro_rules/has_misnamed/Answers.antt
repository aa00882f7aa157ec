use Rattle.std.proofs.Common.{arith, sym, ◌∙◌}
use Rattle.ssr_syntax_tree.proofs.Shared.{node_found, node_passed, none_found}
use Rattle.ssr_syntax_rows.specs.MacroRules.{is_misnamed, misnames}
use Rattle.ssr_syntax_rows.proofs.macro_rules.has_misnamed.Goals as goal

pub returns-then-is_misnamed : goal.returns-then-is_misnamed
unfolding misnames
returns-then-is_misnamed c =
    sym (node_found (is_misnamed c.args.kind c.args.word.now) c.args.tree.now c.loop-number.number (omega arith)
    (sym c.is_misnamed.ensures ∙ c.if-is_misnamed.true) c.loop-number.invariant)

pub loop-number-preserved : goal.loop-number-preserved
loop-number-preserved c =
    node_passed (is_misnamed c.args.kind c.args.word.now) c.args.tree.now c.loop-number.number (omega arith)
    (sym c.is_misnamed.ensures ∙ c.if-is_misnamed.false) c.loop-number.invariant

pub returns : goal.returns
unfolding misnames
returns c = sym (none_found (is_misnamed c.args.kind c.args.word.now) c.args.tree.now c.loop-number.number (omega arith) c.loop-number.invariant)
