use Rattle.ssr_facts.proofs.OneWorkspace.{one_workspace}
use Rattle.ssr_facts.proofs.laws.building.Goals as goal

pub returns : goal.returns
returns c = one_workspace
