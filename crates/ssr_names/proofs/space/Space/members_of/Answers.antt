use Rattle.std.proofs.Common.{subst, All, Contains}
use Rattle.ssr_names.proofs.LookingUp.{part_all}
use Rattle.ssr_names.proofs.space.Space.members_of.Goals as goal

pub returns : goal.returns
returns c =
    let part = c.between.ensures.part in
    subst (λ ms. All (Contains ms) c.between.result.now) c.as_slice-members.ensures.value (part_all _ _ part.0 part.1 part.2)
