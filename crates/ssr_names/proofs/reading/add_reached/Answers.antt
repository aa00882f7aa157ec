use Rattle.std.proofs.Common.{subst}
use Rattle.std.specs.Prelude.{IfSome, string_bytes}
use Rattle.std.proofs.lemmas.Result.{on_ok_weaker}
use Rattle.ssr_names.specs.Printed.{LeadsFrom}
use Rattle.ssr_names.proofs.Printing.{lead_more}
use Rattle.ssr_names.proofs.reading.add_reached.Goals as goal

pub returns : goal.returns
returns c = λ all.
    let space = c.args.printer.now.space.now in
    let definitions = c.args.wanted.now.definitions.items in
    let here : LeadsFrom space definitions c.args.key.scope c.args.key.def (string_bytes c.in-Some.text) =
    subst (λ o. IfSome o (λ text. LeadsFrom space definitions c.args.key.scope c.args.key.def (string_bytes text))) c.in-Some.is c.in_ok-text.ensures in
    on_ok_weaker c.add_text.result (λ more. lead_more space definitions c.args.printed.now c.add_text.new.printed c.args.key c.in-Some.text more here all)
    c.add_text.ensures
