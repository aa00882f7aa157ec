use Rattle.std.proofs.Common.{ap, ◌∙◌, get_or, false, arith}
use Rattle.std.specs.Option.{option_map_or}
use Rattle.ssr_syntax_tree.specs.declared.number.NodeNo.{NodeNo}
use Rattle.ide_ssr_resolving.proofs.FirstArguments.{first_marked, next_marked}
use Rattle.ide_ssr_resolving.proofs.eligible.first_argument_marks.Goals as goal

pub loop-number-preserved : goal.loop-number-preserved
loop-number-preserved c =
    let tree = c.args.tree.now in
    let calls = c.args.calls.now in
    let n = c.loop-number.number in
    let marks = c.loop-number.marks.items in
    let parent = c.parent.result in
    let first =
    first_marked tree calls n c.in_ok-called.called.items c.deref.result.now c.is_marked-is_first.result c.first_argument_of.result c.in_ok-called.ensures
    c.deref.ensures.value c.first_argument_of.ensures c.is_marked-is_first.ensures in
    let below =
    c.is_marked-is_below.ensures ∙ ap (λ marks. option_map_or (λ (parent : NodeNo). get_or marks parent.0 false) parent false) c.deref-in-loop-number.ensures.value in
    next_marked tree calls n marks _ c.is_marked-is_first.result c.is_marked-is_below.result parent (omega arith) c.loop-number.invariant first
    c.parent.ensures.root c.parent.ensures.value below c.in_ok-push.ensures.items
