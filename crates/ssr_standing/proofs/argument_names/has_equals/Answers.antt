use Rattle.std.proofs.Common.{◌≡◌, ◌∙◌, ◌<◌, length, sym, true, false, arith}
use Rattle.ssr_syntax_tree.specs.Places.{elements_of, node_of, part_of}
use Rattle.ssr_standing.specs.ArgumentNames.{is_equals_at}
use Rattle.ssr_standing.proofs.Below.{none_more, one_passes, part_is}
use Rattle.ssr_standing.proofs.argument_names.has_equals.Goals as goal

pub returns-then-equals : goal.returns-then-equals
returns-then-equals c =
    let node = node_of c.args.tree.now c.args.node.0 in
    let here = part_is node c.loop-index.index (part_of c.args.tree.now c.child-child.result) c.is_equals-equals.result c.child-child.ensures.part c.is_equals-equals.ensures in
    let within : c.loop-index.index < length (elements_of node) = omega arith in
    let yes : c.is_equals-equals.result ≡ true = cc in
    sym (one_passes (is_equals_at node) c.loop-index.index (length (elements_of node)) within (sym here ∙ yes))

pub loop-index-preserved : goal.loop-index-preserved
loop-index-preserved c =
    let node = node_of c.args.tree.now c.args.node.0 in
    let here = part_is node c.loop-index.index (part_of c.args.tree.now c.child-child.result) c.is_equals-equals.result c.child-child.ensures.part c.is_equals-equals.ensures in
    let no : c.is_equals-equals.result ≡ false = cc in
    none_more (is_equals_at node) c.loop-index.index c.loop-index.invariant (sym here ∙ no)
