use Rattle.ssr_base_trees.specs.Workspace.{trees}
use Rattle.ssr_base_trees.proofs.Above.{is_up, reaches_its_file, call_above, root_found}
use Rattle.ssr_base_trees.proofs.laws.climbing.Goals as goal

pub returns-clause-node : goal.returns-clause-node
returns-clause-node c w x up b is = (is_up (trees w) x up b.grown is).node

pub returns-clause-earlier : goal.returns-clause-earlier
returns-clause-earlier c w x up b is = (is_up (trees w) x up b.grown is).earlier

pub returns-clause-ends : goal.returns-clause-ends
returns-clause-ends c = reaches_its_file

pub returns-clause-call : goal.returns-clause-call
returns-clause-call c = call_above

pub returns-clause-root : goal.returns-clause-root
returns-clause-root c = root_found
