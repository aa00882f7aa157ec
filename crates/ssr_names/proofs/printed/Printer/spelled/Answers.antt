use Rattle.std.proofs.Common.{string_bytes}
use Rattle.ssr_names.proofs.Printing.{found_too, spells}
use Rattle.ssr_names.proofs.printed.Printer.spelled.Goals as goal

pub returns : goal.returns
returns c =
    found_too c.text.result _ _
    (λ text. spells c.args.self.now.space.now.table.now.names c.args.start c.args.names.now c.in-Some.front.now c.in-Some-split_first.first.now
    c.in-Some-split_first.others.now (string_bytes text) c.in-Some.ensures c.in-Some-split_first.ensures.cases.0)
    c.text.ensures
