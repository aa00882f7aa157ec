use Rattle.ssr_diff.proofs.SameLines.{same_join}
use Rattle.ssr_diff.proofs.HunkLaws.{open_block}
use Rattle.ssr_diff.proofs.hunks.Hunks.change.Goals as goal

pub returns-clause-writing : goal.returns-clause-writing
returns-clause-writing c =
    let opened = open_block _ _ _ c.in_ok-ready.ready.1 c.in_ok-hunk.hunk _ _ c.in_ok-ready.ensures c.requires.trimmed.differs c.requires.trimmed.not_empty c.in_ok-hunk.ensures in
    (opened.0, same_join _ _ _ _ _ opened.1 c.requires.trimmed.behind)
