use Rattle.ssr_base.proofs.Built.{is_built}
use Rattle.ssr_base.proofs.laws.building.Goals as goal

pub returns : goal.returns
returns c = is_built
