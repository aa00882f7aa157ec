use Rattle.ssr_writing.proofs.Calm.{ends_well, fails}
use Rattle.ssr_writing.proofs.laws.calm.Goals as goal

pub returns-clause-ends_well : goal.returns-clause-ends_well
returns-clause-ends_well c = ends_well

pub returns-clause-fails : goal.returns-clause-fails
returns-clause-fails c = fails
