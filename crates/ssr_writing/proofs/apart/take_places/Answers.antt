use Rattle.std.proofs.lemmas.Result.{err_from_is_err_and}
use Rattle.ssr_writing.proofs.Distinct.{added_both, refused_first, refused_second}
use Rattle.ssr_writing.proofs.apart.take_places.Goals as goal

pub returns-in_err-take_place-clause-err : goal.returns-in_err-take_place-clause-err
returns-in_err-take_place-clause-err c =
    let p = err_from_is_err_and c.from_residual.result c.from_residual.ensures.1 in
    rw (p.1, p.2)
    (refused_first c.args.taken.now c.args.taken.now c.args.taken.now c.args.path.now c.args.temporary.now _ c.in_err-take_place.ensures.err)

pub returns-in_err-take_place-2-clause-err : goal.returns-in_err-take_place-2-clause-err
returns-in_err-take_place-2-clause-err c =
    let p = err_from_is_err_and c.from_residual-in_err-take_place-2.result c.from_residual-in_err-take_place-2.ensures.1 in
    rw (p.1, p.2)
    (refused_second c.args.taken.now c.take_place.new.taken c.args.taken.now c.args.path.now c.args.temporary.now _
    c.in_ok-take_place.ensures.ok c.in_err-take_place-2.ensures.err)

pub returns-clause-ok : goal.returns-clause-ok
returns-clause-ok c =
    added_both c.args.taken.now c.take_place.new.taken c.take_place-2.new.taken c.args.path.now c.args.temporary.now
    c.in_ok-take_place.ensures.ok c.in_ok-take_place-2.ensures.ok
