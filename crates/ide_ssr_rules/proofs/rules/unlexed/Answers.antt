use Rattle.std.proofs.Common.{ap, sym, refl, subst}
use Rattle.std.specs.Str.{trim}
use Rattle.ide_ssr_refusals.specs.declared.error.SsrError.TheVariants as errors
use Rattle.ide_ssr_refusals.specs.declared.refusals.Refusal.TheVariants as r
use Rattle.ide_ssr_refusals.specs.Refusals.{Tells, unless}
use Rattle.ide_ssr_rules.specs.StandIns.{first_name, glued_placeholder}
use Rattle.ide_ssr_rules.proofs.LexedSides.{lexed_none}
use Rattle.ide_ssr_rules.proofs.StandIns.{glued_fault}
use Rattle.ide_ssr_refusals.proofs.Shared.{tells_memory, tells_refusal}
use Rattle.ide_ssr_rules.proofs.rules.unlexed.Goals as goal

pub returns-in-Memory : goal.returns-in-Memory
returns-in-Memory c = λ code is fault. tells_memory (unless r.Glued (glued_placeholder c.args.elements.now)) errors.Memory refl

pub returns-in_default : goal.returns-in_default
returns-in_default c = λ code is fault.
    let es = c.args.elements.now in
    tells_refusal (unless r.Glued (glued_placeholder es)) c.told.result (r.Glued (first_name es))
    (ap (unless r.Glued) (sym (glued_fault es code is (lexed_none (trim code) c.args.error c.in_default.not-Memory fault))))
    (subst (λ name. Tells c.told.result (r.Glued name)) c.first_name.ensures c.told.ensures)
