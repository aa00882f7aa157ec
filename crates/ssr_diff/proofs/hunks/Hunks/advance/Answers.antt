use Rattle.ssr_diff.proofs.HunkLaws.{writing_on}
use Rattle.ssr_diff.proofs.hunks.Hunks.advance.Goals as goal

pub returns-in-None-clause-writing : goal.returns-in-None-clause-writing
returns-in-None-clause-writing c = writing_on _ _ _ _ _ _ c.requires.writing c.in-None.ensures
