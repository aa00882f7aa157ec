use Rattle.ide_ssr_nesting.proofs.OneHolding.{held_behind, one_holding}
use Rattle.ide_ssr_nesting.proofs.laws.holding.Goals as goal

pub returns-clause-behind : goal.returns-clause-behind
returns-clause-behind c = held_behind

pub returns-clause-one : goal.returns-clause-one
returns-clause-one c = one_holding
