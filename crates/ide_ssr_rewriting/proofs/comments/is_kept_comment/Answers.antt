use Rattle.std.proofs.Common.{rules}
use Rattle.ide_ssr_rewriting.proofs.comments.is_kept_comment.Goals as goal

pub returns-then-is_comment : goal.returns-then-is_comment
returns-then-is_comment c = search rules steps 200000

pub returns-else-is_comment : goal.returns-else-is_comment
returns-else-is_comment c = search rules steps 200000
