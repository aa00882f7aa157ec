use Rattle.std.proofs.Common.{arith}
use Rattle.std.proofs.lemmas.List.{length-map}
use Rattle.ssr_base_trees.specs.Applied.{change_of, changes_of}
use Rattle.ssr_base_trees.proofs.Changes.{changes_from}
use Rattle.ssr_set_aside.proofs.PartLaws.{parts_from, parts_none}
use Rattle.ssr_set_aside.proofs.parts.are_of_tokens.Goals as goal

pub loop-change-preserved : goal.loop-change-preserved
loop-change-preserved c =
    let one = c.change-item.result in
    let from = changes_from c.args.changes.now c.loop-change.change-index one c.loop-change-test.true c.change-item.is in
    let step = rw c.in-Some-2.is at c.in_ok-left.ensures in
    λ all. c.loop-change.invariant (parts_from _ _ _ _ _ _ from (step _ all))

pub returns : goal.returns
returns c = λ yes.
    c.loop-change.invariant
    (parts_none _ _ _ (changes_of c.args.changes.now) c.loop-change.change-index c.loop-change.wanted.now c.is_empty.result
    (omega (arith, length-map c.args.changes.now change_of)) c.is_empty.ensures yes)
