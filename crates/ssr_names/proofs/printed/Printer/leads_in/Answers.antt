use Rattle.ssr_names.proofs.Telling.{if_ok_all}
use Rattle.ssr_names.proofs.printed.Printer.leads_in.Goals as goal

pub returns : goal.returns
returns c = if_ok_all c.begins_surely.result _ (λ leads is. c.in_ok-answer.ensures c.args.definition (c.is.ensures c.if-not-is.false))
