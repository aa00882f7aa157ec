use Rattle.std.proofs.Common.{Contains, sym, subst}
use Rattle.ssr_names.proofs.locals.bind_around.Goals as goal

pub returns-clause-bound : goal.returns-clause-bound
returns-clause-bound c = λ function below is_one.
    c.in_ok-bind_among.ensures.bound function (subst (λ ns. Contains ns function) (sym c.as_slice.ensures.value) (c.in_ok-nodes.ensures function below)) is_one
