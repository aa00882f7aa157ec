use Rattle.ide_ssr.proofs.OneEach.{one_outcome}
use Rattle.ide_ssr.proofs.SomeOutcome.{outcome_exists}
use Rattle.ide_ssr.proofs.laws.searching.Goals as goal

pub returns : goal.returns
returns c = record { exist = outcome_exists; one = one_outcome }
