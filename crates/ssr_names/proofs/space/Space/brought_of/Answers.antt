use Rattle.std.proofs.Common.{false, true≢false, sym, inl, inr}
use Rattle.ssr_names.specs.Lookup.{brings_of_module, reaches_through}
use Rattle.ssr_names.proofs.LookingUp.{of_means, of_sure}
use Rattle.ssr_names.proofs.space.Space.brought_of.Goals as goal

pub returns-then-explicit-clause-brought : goal.returns-then-explicit-clause-brought
returns-then-explicit-clause-brought c = λ i brings. record {
  means = λ d is. brings_of_module d c.args.import.now c.args.«module» brings.is brings.stands (c.explicit-explicit.ensures.means d (of_means _ _ c.of.result d c.of.ensures is));
  sure = λ sure. (c.args.import.now, brings.is, of_sure _ _ c.of.result c.of.ensures sure);
}

pub returns-clause-brought : goal.returns-clause-brought
returns-clause-brought c = λ i brings. record {
  means = λ d is. elim (c.join-found.ensures.means d (of_means c.join-found.result.meaning false c.of-2.result d c.of-2.ensures is)) [
    | inl one ↦ brings_of_module d c.args.import.now c.args.«module» brings.is brings.stands (c.explicit-explicit.ensures.means d one)
    | inr two ↦ absurd (c.if_open.ensures.means d two)
  ];
  sure = λ sure. absurd (true≢false (sym (of_sure c.join-found.result.meaning false c.of-2.result c.of-2.ensures sure)));
}

pub returns-clause-reached : goal.returns-clause-reached
returns-clause-reached c = λ i brings root all reaches.
    c.in_ok-add_globs.ensures root c.args.question all
    (λ j glob. reaches_through i j c.args.import.now c.args.«module» reaches brings.is brings.stands (c.explicit-explicit.ensures.free c.if-explicit.false) glob)
