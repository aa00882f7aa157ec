use Rattle.std.proofs.lemmas.Result.{IfOk-weaker}
use Rattle.ssr_names.proofs.printed.Printer.leads_as.Goals as goal

pub returns : goal.returns
returns c = IfOk-weaker c.leads_in.result _ _ (λ leads had is among. had is) c.leads_in.ensures
