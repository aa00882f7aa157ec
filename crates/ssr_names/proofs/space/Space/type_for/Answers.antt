use Rattle.std.proofs.Common.{inr, refl}
use Rattle.ssr_names.proofs.space.Space.type_for.Goals as goal

pub returns-in-Some : goal.returns-in-Some
returns-in-Some c = inr (record { path = c.in-Outside.path; is = c.in-Outside.is }, record { path = c.in-Some.builtin; is = refl })
