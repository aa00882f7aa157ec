use Rattle.std.proofs.Common.{rules}
use Rattle.ide_ssr.proofs.matches.Match.comments.Goals as goal

pub returns : goal.returns
returns c = search rules steps 130000
