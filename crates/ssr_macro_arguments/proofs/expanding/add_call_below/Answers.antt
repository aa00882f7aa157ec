use Rattle.ssr_macro_arguments.specs.Calls.{its_tree}
use Rattle.ssr_macro_arguments.proofs.expanding.add_call_below.Goals as goal

pub returns-clause-made : goal.returns-clause-made
returns-clause-made c = λ text spelled all.
    let place = its_tree c.args.above.now.read in
    c.in_ok-add_made.ensures.made place c.args.number text all
    (c.in_ok-found.ensures.made place text c.in-Some.ensures.call (rw c.in-Some-2.is at c.in_ok-arguments.ensures.all)
    ((rw c.in-Some-2.is at c.in_ok-arguments.ensures.spelled) text spelled))
