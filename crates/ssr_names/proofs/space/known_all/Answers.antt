use Rattle.ssr_names.proofs.LookingUp.{part_all}
use Rattle.ssr_names.proofs.space.known_all.Goals as goal

pub returns : goal.returns
returns c = let part = c.between.ensures.part in part_all c.args.list.now _ part.0 part.1 part.2
