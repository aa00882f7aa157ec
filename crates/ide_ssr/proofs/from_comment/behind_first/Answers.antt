use Rattle.std.proofs.Common.{◌∙◌}
use Rattle.ide_ssr.proofs.CommentTokens.{behind_here, behind_more, behind_none}
use Rattle.ide_ssr.proofs.from_comment.behind_first.Goals as goal

pub returns-in-Some : goal.returns-in-Some
returns-in-Some c =
    behind_here c.args.prefixes.now c.loop-prefix.prefix-index _ c.args.text.now c.in-Some.rest.now c.loop-prefix-test.true c.in-Some.ensures
    ∙ c.loop-prefix.invariant

pub loop-prefix-preserved : goal.loop-prefix-preserved
loop-prefix-preserved c =
    behind_more c.args.prefixes.now c.loop-prefix.prefix-index _ c.args.text.now c.loop-prefix-test.true c.in_default.ensures
    ∙ c.loop-prefix.invariant

pub returns : goal.returns
returns c =
    behind_none c.args.prefixes.now c.loop-prefix.prefix-index c.args.text.now c.loop-prefix-test.false
    ∙ c.loop-prefix.invariant
