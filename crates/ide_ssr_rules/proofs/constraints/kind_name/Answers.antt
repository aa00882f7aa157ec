use Rattle.std.proofs.Common.{rules}
use Rattle.ide_ssr_rules.specs.Constraints.{kind_name}
use Rattle.ide_ssr_rules.proofs.constraints.kind_name.Goals as goal

pub returns : goal.returns
unfolding kind_name
returns c = search rules steps 340000
