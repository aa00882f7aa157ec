use Rattle.std.proofs.Common.{◌<◌, ◌≤◌, length, Contains, sym, subst, arith}
use Rattle.ssr_syntax_tree.specs.Places.{node_of, elements_of}
use Rattle.ssr_names.proofs.Climbing.{take_whole}
use Rattle.ssr_names.proofs.Binding.{no_child_more}
use Rattle.ssr_names.proofs.places.lists_parameter.Goals as goal

pub loop-place-preserved : goal.loop-place-preserved
loop-place-preserved c =
    let children = elements_of (node_of c.args.tree.now c.args.list.0) in
    let within : c.loop-place.place < length children = omega (arith, c.child_count-place-end.ensures, c.loop-place-test.true) in
    no_child_more c.args.tree.now children c.loop-place.place c.child.result within c.child.ensures.element c.args.name.now
    (c.is_parameter.ensures c.if-is_parameter.false) c.loop-place.invariant

pub returns : goal.returns
returns c = λ free child had.
    let children = elements_of (node_of c.args.tree.now c.args.list.0) in
    let all : length children ≤ c.loop-place.place = omega (arith, c.child_count-place-end.ensures, c.loop-place-test.false) in
    c.loop-place.invariant child (subst (λ cs. Contains cs child) (sym (take_whole children c.loop-place.place all)) had)
