use Rattle.std.proofs.Common.{ap, string_bytes, ◌∙◌, subst}
use Rattle.std.proofs.lemmas.List.{take_all}
use Rattle.ssr_writing.specs.Disk.{AreApart}
use Rattle.ssr_writing.proofs.Distinct.{stopped_at_once, taken_turn}
use Rattle.ssr_writing.proofs.Turns.{temporary_at}
use Rattle.ssr_writing.proofs.apart.keep_apart.Goals as goal

pub returns-in-Err-clause-err : goal.returns-in-Err-clause-err
returns-in-Err-clause-err c =
    stopped_at_once c.args.files.now c.loop-index.index _ c.loop-index-test.true c.loop-index.taken c.loop-index.invariant _
    (c.as_str.ensures.value ∙ ap string_bytes c.index-temporaries-index.is
    ∙ temporary_at string_bytes c.args.temporaries.now c.args.files.now c.loop-index.index c.index-temporaries-index.result _ c.requires c.loop-index-test.true)
    _ c.in-Err.ensures.err

pub loop-index-preserved : goal.loop-index-preserved
loop-index-preserved c =
    taken_turn c.args.files.now c.loop-index.index _ c.loop-index-test.true c.loop-index.taken c.loop-index.invariant _
    (c.as_str.ensures.value ∙ ap string_bytes c.index-temporaries-index.is
    ∙ temporary_at string_bytes c.args.temporaries.now c.args.files.now c.loop-index.index c.index-temporaries-index.result _ c.requires c.loop-index-test.true)
    c.take_places.new.taken c.in_default.ensures.ok

pub returns-clause-ok : goal.returns-clause-ok
returns-clause-ok c =
    subst AreApart (take_all c.loop-index.index c.args.files.now c.loop-index-test.false) c.loop-index.invariant.1
