use Rattle.ssr_diff.proofs.HunkLaws.{writing_on}
use Rattle.ssr_diff.proofs.hunks.Hunks.reach.Goals as goal

pub first-requires-clause-empty : goal.first-requires-clause-empty
first-requires-clause-empty c =
    let w = rw c.in-None.is at (writing_on _ _ _ _ _ c.args.place c.requires.writing c.requires.same) in
    w.0

pub first-requires-clause-same : goal.first-requires-clause-same
first-requires-clause-same c =
    let w = rw c.in-None.is at (writing_on _ _ _ _ _ c.args.place c.requires.writing c.requires.same) in
    w.1

pub reach-requires-clause-shown : goal.reach-requires-clause-shown
reach-requires-clause-shown c =
    let w = rw c.in-Some.is at (writing_on _ _ _ _ _ c.args.place c.requires.writing c.requires.same) in
    w.0

pub reach-requires-clause-same : goal.reach-requires-clause-same
reach-requires-clause-same c =
    let w = rw c.in-Some.is at (writing_on _ _ _ _ _ c.args.place c.requires.writing c.requires.same) in
    w.1
