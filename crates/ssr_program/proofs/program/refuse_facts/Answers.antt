use Rattle.std.proofs.Common.{inl, ap, ◌∙◌}
use Rattle.ssr_program.specs.declared.commands.Form.TheVariants as forms
use Rattle.ssr_program.specs.Output.{input_refused}
use Rattle.ssr_program.proofs.Answering.{goes_as}
use Rattle.ssr_program.proofs.program.refuse_facts.Goals as goal

pub returns-in-Ok : goal.returns-in-Ok
returns-in-Ok g c = inl (goes_as _ _ _ _ _ (ap (input_refused forms.Facts) (c.as_str.ensures.value ∙ c.in-Ok.ensures)) c.refuse_input.ensures)
