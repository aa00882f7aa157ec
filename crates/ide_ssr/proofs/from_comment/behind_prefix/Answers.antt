use Rattle.ide_ssr.specs.FromComment.{prefixes}
use Rattle.ide_ssr.proofs.from_comment.behind_prefix.Goals as goal

pub returns : goal.returns
unfolding prefixes
returns c = c.behind_first.ensures
