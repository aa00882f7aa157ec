use Rattle.std.proofs.Common.{sym}
use Rattle.ssr_base_trees.proofs.StoredLaws.{stored_call}
use Rattle.ssr_base_trees.proofs.Numbers.{no_call}
use Rattle.ssr_base_trees.proofs.trees.Trees.call_of.Goals as goal

pub returns-in-Some : goal.returns-in-Some
returns-in-Some c = stored_call c.args.self.now c.args.tree c.in-Some.expansion.now c.in-Some.ensures.found

pub returns-in-None : goal.returns-in-None
returns-in-None c = sym (no_call c.args.self.now c.args.tree c.in-None.ensures.none)
