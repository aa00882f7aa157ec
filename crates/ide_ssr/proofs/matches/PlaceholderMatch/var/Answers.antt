use Rattle.std.proofs.Common.{rules}
use Rattle.ide_ssr.proofs.matches.PlaceholderMatch.var.Goals as goal

pub returns : goal.returns
returns c = search rules steps 44000
