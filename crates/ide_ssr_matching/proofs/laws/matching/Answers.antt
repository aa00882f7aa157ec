use Rattle.ide_ssr_matching.proofs.Agreement.{bindings_of-Matches, Matches-bindings_of}
use Rattle.ide_ssr_matching.proofs.laws.matching.Goals as goal

pub returns-clause-found : goal.returns-clause-found
returns-clause-found c = bindings_of-Matches

pub returns-clause-complete : goal.returns-clause-complete
returns-clause-complete c = Matches-bindings_of
