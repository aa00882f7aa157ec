use Rattle.std.proofs.Common.{arith, rules}
use Rattle.std.proofs.lemmas.Grind.{common_steps}
use Rattle.ide_ssr_rewriting.proofs.comments.push_comment.Goals as goal

pub returns-in_err-push_str : goal.returns-in_err-push_str
returns-in_err-push_str c = search rules steps 200000

pub returns-in_ok-push_str-2 : goal.returns-in_ok-push_str-2
returns-in_ok-push_str-2 c = grind (arith, common_steps) steps 200000

pub returns-else-starts_with : goal.returns-else-starts_with
returns-else-starts_with c = first_of (search rules steps 2000000, grind (arith, common_steps) steps 2000000)
