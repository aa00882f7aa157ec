use Rattle.ssr_macro_arguments.proofs.Tops.{call_added}
use Rattle.ssr_macro_arguments.proofs.expanding.add_made.Goals as goal

pub returns-clause-made : goal.returns-clause-made
returns-clause-made c = λ place tree text all own.
    call_added place tree text _ _ _ c.in-Some.one c.in-Some.is c.in_ok-push.ensures.items all own
