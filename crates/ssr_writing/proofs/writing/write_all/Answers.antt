use Rattle.std.proofs.Common.{refl, inl}
use Rattle.std.proofs.lemmas.Result.{err_from_is_err_and}
use Rattle.ssr_writing.proofs.Turns.{stopped_early, stopped_making, stopped_replacing}
use Rattle.ssr_writing.proofs.writing.write_all.Goals as goal

pub returns-in_err-keep_apart-in-Ok-clause-err : goal.returns-in_err-keep_apart-in-Ok-clause-err
returns-in_err-keep_apart-in-Ok-clause-err g c =
    let p = err_from_is_err_and c.from_residual.result c.from_residual.ensures.1 in
    rw (p.1, p.2) (stopped_early c.args.files.now _ (g.D.Disk.calls c.args.disk.now) c.in_err-keep_apart-in-Ok.ensures.err)

pub returns-in_err-prepare_all-in-Ok-clause-err : goal.returns-in_err-prepare_all-in-Ok-clause-err
returns-in_err-prepare_all-in-Ok-clause-err g c =
    let p = err_from_is_err_and c.from_residual-in_err-prepare_all-in-Ok.result c.from_residual-in_err-prepare_all-in-Ok.ensures.1 in
    rw (p.1, p.2)
    (stopped_making c.args.files.now _ (g.D.Disk.calls c.args.disk.now) _ c.in_ok-keep_apart-in-Ok.ensures.ok
    c.in_err-prepare_all-in-Ok.ensures.written c.in_err-prepare_all-in-Ok.ensures.err)

pub returns-in_err-replace_all-in-Ok-clause-err : goal.returns-in_err-replace_all-in-Ok-clause-err
returns-in_err-replace_all-in-Ok-clause-err g c =
    let p = err_from_is_err_and c.from_residual-in_err-replace_all-in-Ok.result c.from_residual-in_err-replace_all-in-Ok.ensures.1 in
    rw (p.1, p.2)
    (stopped_replacing c.args.files.now _ (g.D.Disk.calls c.args.disk.now) _ _ c.in_ok-keep_apart-in-Ok.ensures.ok
    c.in_ok-prepare_all-in-Ok.ensures.ok c.in_err-replace_all-in-Ok.ensures.written c.in_err-replace_all-in-Ok.ensures.err)

pub returns-in-Err-clause-err : goal.returns-in-Err-clause-err
returns-in-Err-clause-err g c = stopped_early c.args.files.now _ (g.D.Disk.calls c.args.disk.now) (refl, inl refl)
