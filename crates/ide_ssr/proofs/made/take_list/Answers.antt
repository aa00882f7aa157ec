use Rattle.ide_ssr.proofs.Taking.{taking_none, within, there_still, taking_more, taken_all, left_all}
use Rattle.ide_ssr.proofs.made.take_list.Goals as goal

pub loop-place-init : goal.loop-place-init
loop-place-init c = taking_none c.args.places.now c.args.made.now.items _ c.new-list.ensures.items

pub take_made-requires-clause-place : goal.take_made-requires-clause-place
take_made-requires-clause-place c =
    within c.loop-place.made.items _
    (there_still c.args.places.now c.loop-place.place-index c.args.made.now.items c.loop-place.made.items _ c.requires.once c.requires.there c.loop-place.invariant c.loop-place-test.true)

pub take_made-requires-clause-made : goal.take_made-requires-clause-made
take_made-requires-clause-made c =
    there_still c.args.places.now c.loop-place.place-index c.args.made.now.items c.loop-place.made.items _ c.requires.once c.requires.there c.loop-place.invariant c.loop-place-test.true

pub loop-place-preserved : goal.loop-place-preserved
loop-place-preserved c =
    taking_more c.args.places.now c.loop-place.place-index c.args.made.now.items c.loop-place.made.items _ _ _ c.take_made.result c.requires.once c.loop-place.invariant c.loop-place-test.true
    c.take_made.ensures.taken c.take_made.ensures.others c.take_made.ensures.counted c.in_ok-push.ensures.items

pub returns-clause-taken : goal.returns-clause-taken
returns-clause-taken c =
    taken_all c.args.places.now c.loop-place.place-index c.args.made.now.items c.loop-place.made.items _ c.loop-place.invariant c.loop-place-test.false

pub returns-clause-others : goal.returns-clause-others
returns-clause-others c =
    left_all c.args.places.now c.loop-place.place-index c.args.made.now.items c.loop-place.made.items _ c.loop-place.invariant c.loop-place-test.false

pub returns-clause-counted : goal.returns-clause-counted
returns-clause-counted c = c.loop-place.invariant.counted
