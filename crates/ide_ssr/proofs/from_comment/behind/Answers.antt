use Rattle.ide_ssr.proofs.CommentTokens.{behind_is}
use Rattle.ide_ssr.proofs.from_comment.behind.Goals as goal

pub returns : goal.returns
returns c = behind_is c.args.prefix.now c.args.text.now c.strip_prefix.result c.strip_prefix.ensures.cases
