use Rattle.ide_ssr_leading.proofs.Bound.{some_most}
use Rattle.ide_ssr_leading.proofs.NothingMissed.{complete, same_found}
use Rattle.ide_ssr_leading.proofs.laws.leading.Goals as goal

pub returns-clause-complete : goal.returns-clause-complete
returns-clause-complete c = complete

pub returns-clause-found : goal.returns-clause-found
returns-clause-found c = same_found

pub returns-clause-bound : goal.returns-clause-bound
returns-clause-bound c = λ w m context rules built. some_most w built m context rules
