use Rattle.std.proofs.Common.{arith}
use Rattle.ssr_diff.proofs.HunkLaws.{ready_first}
use Rattle.ssr_diff.proofs.hunks.OpenHunk.first.Goals as goal

pub before-requires-clause-new : goal.before-requires-clause-new
before-requires-clause-new c = let many = c.requires.same.as_many in omega (arith, many)

pub returns : goal.returns
returns c =
    ready_first _ _ _ _ c.in_ok-hunk.hunk c.requires.empty c.requires.same c.in_ok-hunk.ensures.start c.in_ok-hunk.ensures.end c.in_ok-hunk.ensures.text
