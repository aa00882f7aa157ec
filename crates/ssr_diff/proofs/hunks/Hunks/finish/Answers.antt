use Rattle.std.proofs.Common.{ap}
use Rattle.std.proofs.lemmas.Result.{IfOk-weaker}
use Rattle.ssr_diff.specs.declared.places.Place.{Place}
use Rattle.ssr_diff.proofs.HunkLaws.{writing_fits, hunks_none, hunks_closed}
use Rattle.ssr_diff.proofs.hunks.Hunks.finish.Goals as goal

pub advance-requires-clause-order : goal.advance-requires-clause-order
advance-requires-clause-order c = rw c.end-end.ensures (writing_fits _ _ _ _ _ c.requires)

pub returns-in-None : goal.returns-in-None
returns-in-None c =
    let w = rw (c.in-None.is, c.in_ok-hunks.ensures.at) at c.in_ok-hunks.ensures.writing in
    hunks_none _ _ _ _ w.0 w.1 (ap (λ (p : Place). p.old) c.end-end.ensures) (ap (λ (p : Place). p.new) c.end-end.ensures)

pub close-requires-clause-shown : goal.close-requires-clause-shown
close-requires-clause-shown c =
    let w = rw c.in-Some.is at c.in_ok-hunks.ensures.writing in
    w.0

pub close-requires-clause-same : goal.close-requires-clause-same
close-requires-clause-same c =
    let w = rw (c.in-Some.is, c.in_ok-hunks.ensures.at) at c.in_ok-hunks.ensures.writing in
    w.1

pub close-requires-clause-context : goal.close-requires-clause-context
close-requires-clause-context c = λ few. ap (λ (p : Place). p.old) c.end-end.ensures

pub returns-in-Some : goal.returns-in-Some
returns-in-Some c =
    let w = rw (c.in-Some.is, c.in_ok-hunks.ensures.at) at c.in_ok-hunks.ensures.writing in
    IfOk-weaker c.close.result _ _ (λ text closed. hunks_closed _ _ _ _ _ closed w.1 (ap (λ (p : Place). p.old) c.end-end.ensures) (ap (λ (p : Place). p.new) c.end-end.ensures)) c.close.ensures
