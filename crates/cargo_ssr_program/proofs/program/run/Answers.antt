use Rattle.std.proofs.Common.{ap, refl, ◌≡◌, ◌∙◌}
use Rattle.cargo_ssr_program.proofs.Endings.{ran_by_options, ran_without}
use Rattle.cargo_ssr_program.proofs.program.run.Goals as goal
use Rattle.cargo_ssr_program.proofs.program.run.Goals.{in-Err-outcome, in_default}

pub returns-after-outcome-clause-ran : goal.returns-after-outcome-clause-ran
returns-after-outcome-clause-ran g c =
    let same : c.match-outcome.console.out ≡ c.perform-outcome.new.console.out =
    elim c.match-outcome.branch [
      | in-Err-outcome w ↦ ap (λ console. console.out) w.console-is ∙ w.tell_failure.ensures.0
      | in_default w ↦ ap (λ console. console.out) w.console-is
    ] in
    ran_by_options _ _ _ _ _ _ _ _ _ c.in-Ok.ensures c.perform-outcome.ensures.disk c.perform-outcome.ensures.ends (ap g.W.Sink.taken same) c.status.ensures.status

pub returns-in-Err-clause-ran : goal.returns-in-Err-clause-ran
returns-in-Err-clause-ran g c = ran_without _ _ _ _ _ refl c.tell_words.ensures
