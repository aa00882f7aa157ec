use Rattle.ssr_names.proofs.Printing.{found_too, path_of}
use Rattle.ssr_names.proofs.printed.Printer.text_if_leads.Goals as goal

pub returns : goal.returns
returns c =
    found_too c.spelled.result _ _
    (λ text spelled. path_of c.args.self.now.space.now c.args.«module» c.args.written c.args.start c.args.names.now _ spelled (c.in_ok-leads.ensures c.if-not-leads.false))
    c.spelled.ensures
