use Rattle.std.proofs.Common.{subst}
use Rattle.ssr_names.specs.Lookup.{path_behind}
use Rattle.ssr_names.specs.Private.Answered.{IsFront, place_of}
use Rattle.ssr_names.proofs.Following.{one_name}
use Rattle.ssr_names.proofs.space.Space.next.Goals as goal

pub returns-in_ok-first-in-Empty : goal.returns-in_ok-first-in-Empty
returns-in_ok-first-in-Empty c = λ done known d is.
    let place = place_of c.args.path in
    one_name c.args.self.now place c.args.step.namespace c.args.step.name done d (subst (IsFront c.args.self.now place done) c.in-Empty.is known)
    (c.in_ok-first-in-Empty.ensures d is)

pub returns-in_ok-behind-in-Behind : goal.returns-in_ok-behind-in-Behind
returns-in_ok-behind-in-Behind c = λ done known d is.
    let place = place_of c.args.path in
    path_behind c.args.step.namespace done c.args.step.name c.in-Behind.definition d (subst (IsFront c.args.self.now place done) c.in-Behind.is known)
    (c.in_ok-behind-in-Behind.ensures d is)
