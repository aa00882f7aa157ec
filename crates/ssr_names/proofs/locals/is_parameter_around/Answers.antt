use Rattle.std.proofs.Common.{Contains, sym, subst}
use Rattle.ssr_names.proofs.locals.is_parameter_around.Goals as goal

pub returns : goal.returns
returns c = λ free node below.
    c.has_parameter_among.ensures free node (subst (λ ns. Contains ns node) (sym c.as_slice.ensures.value) (c.in_ok-nodes.ensures node below))
