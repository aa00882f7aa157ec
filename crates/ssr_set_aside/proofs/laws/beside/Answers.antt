use Rattle.ssr_set_aside.proofs.Beside.{touches_ahead, touches_behind}
use Rattle.ssr_set_aside.proofs.laws.beside.Goals as goal

pub returns-clause-ahead : goal.returns-clause-ahead
returns-clause-ahead c = touches_ahead

pub returns-clause-behind : goal.returns-clause-behind
returns-clause-behind c = touches_behind
