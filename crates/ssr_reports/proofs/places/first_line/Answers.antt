use Rattle.std.proofs.Common.{lit<}
use Rattle.ssr_reports.proofs.Marks.{mark_before_more, no_mark, whole_line}
use Rattle.ssr_reports.proofs.places.first_line.Goals as goal

pub returns-in-Some-clause-first : goal.returns-in-Some-clause-first
returns-in-Some-clause-first c = (c.in-Some.ensures.byte (lit< tt) (λ w o f. f)).0

pub returns-in-Some-clause-mark : goal.returns-in-Some-clause-mark
returns-in-Some-clause-mark c = mark_before_more c.args.text.now (c.in-Some.ensures.byte (lit< tt) (λ w o f. f)).2

pub returns-in-None-clause-first : goal.returns-in-None-clause-first
returns-in-None-clause-first c = whole_line c.args.text.now (c.in-None.ensures.byte (lit< tt) (λ w o f. f))

pub returns-in-None-clause-mark : goal.returns-in-None-clause-mark
returns-in-None-clause-mark c = no_mark c.args.text.now (c.in-None.ensures.byte (lit< tt) (λ w o f. f))
