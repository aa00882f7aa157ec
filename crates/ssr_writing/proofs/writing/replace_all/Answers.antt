use Rattle.std.proofs.Common.{ap, string_bytes, ◌∙◌}
use Rattle.ssr_writing.proofs.Turns.{removed_from, stops_replacing, temporary_at}
use Rattle.ssr_writing.proofs.writing.replace_all.Goals as goal

pub replace-requires : goal.replace-requires
replace-requires g c =
    c.as_str.ensures.value ∙ ap string_bytes c.index-temporaries-index.is
    ∙ temporary_at string_bytes c.args.temporaries.now c.args.files.now c.loop-index.index c.index-temporaries-index.result _ c.requires c.loop-index-test.true

pub returns-in-Err-clause-err : goal.returns-in-Err-clause-err
returns-in-Err-clause-err g c =
    stops_replacing c.args.files.now c.loop-index.index _ c.loop-index-test.true
    (g.D.Disk.calls c.args.disk.now) (g.D.Disk.calls c.loop-index.disk) (g.D.Disk.calls c.replace.new.disk) (g.D.Disk.calls c.remove_all.new.disk)
    _ c.loop-index.invariant c.in-Err.ensures.err c.remove_all.ensures
    (removed_from string_bytes c.args.temporaries.now c.args.files.now c.loop-index.index c.requires)
