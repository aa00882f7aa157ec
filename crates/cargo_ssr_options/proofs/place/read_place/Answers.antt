use Rattle.std.proofs.Common.{inl, inr, rules}
use Rattle.cargo_ssr_options.proofs.place.read_place.Goals as goal
use Rattle.cargo_ssr_options.proofs.place.read_place.Goals.{in-Some-numbered, in-None}

pub returns : goal.returns
returns c = elim c.match-numbered-2.branch [ in-Some-numbered w ↦ inl (search rules) | in-None w ↦ inr (search rules) ]
