use Rattle.ssr_names.proofs.Printing.{found_too, leads_by}
use Rattle.ssr_names.proofs.reading.reached.Goals as goal

pub returns : goal.returns
returns c =
    found_too c.path_from.result _ _
    (λ text is. leads_by c.args.printer.now.space.now c.args.wanted.now.definitions.items c.args.key.scope c.args.key.def c.args.template.now.written _
    (c.is_numbered.ensures c.if-not-is_numbered.false) is)
    c.path_from.ensures
