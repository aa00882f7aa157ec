use Rattle.std.proofs.lemmas.Result.{err_from_is_err_and}
use Rattle.ssr_changes.proofs.Plans.{fault_is}
use Rattle.ssr_changes.proofs.planning.plan.Goals as goal

pub returns-in_err-check_names-clause-refused : goal.returns-in_err-check_names-clause-refused
returns-in_err-check_names-clause-refused c =
    let p = err_from_is_err_and c.from_residual-in_err-check_names.result c.from_residual-in_err-check_names.ensures.1 in
    rw (p.1, p.2) (fault_is c.args.files.now.files c.args.made.now c.in_ok-plan.plan.items c.deref.result.now c.in_err-check_names.field-0.0 c.deref.ensures.value
    c.in_ok-plan.ensures.texts c.in_err-check_names.ensures)
