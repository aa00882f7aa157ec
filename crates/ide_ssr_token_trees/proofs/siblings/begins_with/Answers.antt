use Rattle.std.proofs.Common.{rules}
use Rattle.ide_ssr_token_trees.proofs.siblings.begins_with.Goals as goal

pub returns-in-Some-Some : goal.returns-in-Some-Some
returns-in-Some-Some c = search rules
