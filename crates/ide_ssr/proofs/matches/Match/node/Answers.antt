use Rattle.std.proofs.Common.{rules}
use Rattle.ide_ssr.proofs.matches.Match.node.Goals as goal

pub returns : goal.returns
returns c = search rules steps 44000
