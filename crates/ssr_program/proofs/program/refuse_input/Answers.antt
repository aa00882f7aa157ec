use Rattle.std.proofs.Common.{ap, sym}
use Rattle.ssr_program.specs.declared.commands.Form.{Form}
use Rattle.ssr_program.specs.Output.{input_refused}
use Rattle.ssr_program.proofs.Answering.{goes_as}
use Rattle.ssr_program.proofs.program.refuse_input.Goals as goal

pub returns-in-File : goal.returns-in-File
returns-in-File g c = goes_as _ _ _ _ _ (ap (λ (form : Form). input_refused form c.args.words.now) (sym c.in-File.is)) c.send.ensures

pub returns-in-Facts : goal.returns-in-Facts
returns-in-Facts g c = goes_as _ _ _ _ _ (ap (λ (form : Form). input_refused form c.args.words.now) (sym c.in-Facts.is)) c.send-in-Facts.ensures
