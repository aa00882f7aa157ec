use Rattle.ide_ssr_matching.proofs.Held.{held_in, held_apart}
use Rattle.ide_ssr_matching.proofs.laws.holding.Goals as goal

pub returns-clause-held : goal.returns-clause-held
returns-clause-held c = held_in

pub returns-clause-apart : goal.returns-clause-apart
returns-clause-apart c = held_apart
