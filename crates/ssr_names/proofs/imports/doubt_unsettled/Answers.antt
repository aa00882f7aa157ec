use Rattle.std.proofs.lemmas.Bool.{or_parts}
use Rattle.ssr_names.proofs.Settling.{answered_on, settled_next}
use Rattle.ssr_names.proofs.imports.doubt_unsettled.Goals as goal

pub loop-place-preserved : goal.loop-place-preserved
loop-place-preserved c =
    let l = c.loop-place in
    let fn = c.args.space.now in
    let new = c.doubt.new.space in
    record {
      answered = answered_on fn l.space new l.invariant.answered c.in_ok-is_new.ensures.answered;
      settled = λ same.
          let both = or_parts l.is_changed c.in_ok-is_new.is_new same in
          settled_next (λ place. place) fn l.space new l.place (c.in_ok-is_new.ensures.settled both.1) (l.invariant.settled both.0);
    }
