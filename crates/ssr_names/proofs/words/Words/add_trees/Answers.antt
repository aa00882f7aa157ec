use Rattle.std.proofs.Common.{sym, arith}
use Rattle.ssr_base_trees.proofs.Shared.{tree_within}
use Rattle.ssr_names.proofs.Collecting.{all_collected, next_collected, none_collected}
use Rattle.ssr_names.proofs.words.Words.add_trees.Goals as goal

pub loop-number-preserved-in_default : goal.loop-number-preserved-in_default
loop-number-preserved-in_default c = none_collected c.args.trees.now c.loop-number.self c.loop-number.number c.in_default.ensures c.loop-number.invariant

pub loop-number-preserved : goal.loop-number-preserved
loop-number-preserved c =
    next_collected c.args.trees.now c.loop-number.self c.add_tree.new.self c.loop-number.number c.in-Some.tree.now c.in-Some.ensures
    c.in_ok-add_tree.ensures.kept c.in_ok-add_tree.ensures.collected c.loop-number.invariant

pub returns-clause-collected : goal.returns-clause-collected
returns-clause-collected c =
    let few = c.file_count.ensures.built.few in
    all_collected c.args.trees.now c.loop-number.self c.loop-number.number
    (λ t tree is.
    let within = tree_within c.args.trees.now t tree (sym is) in
    omega (arith, within, few, c.file_count.ensures.count, c.expansion_count.ensures, c.saturating_add-count.ensures, c.loop-number-test.false))
    c.loop-number.invariant
