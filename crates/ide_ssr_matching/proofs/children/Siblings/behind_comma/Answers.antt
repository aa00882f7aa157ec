use Rattle.std.proofs.Common.{sym}
use Rattle.ide_ssr_matching.proofs.Bare.{closed-answer, closed-kept, last-answer, open-answer, open-kept}
use Rattle.ide_ssr_matching.proofs.children.Siblings.behind_comma.Goals as goal

pub returns-in_default-clause-gives : goal.returns-in_default-clause-gives
returns-in_default-clause-gives c = last-answer _ c.args.comma _ _ c.requires.no_trivia c.in_default.ensures.gives c.in_default.ensures.none

pub returns-then-closes-clause-gives : goal.returns-then-closes-clause-gives
returns-then-closes-clause-gives c = closed-answer _ c.args.comma c.in-Some.behind _ _ c.requires.comma c.in-Some.ensures.gives (sym c.if-closes.ensures)

pub returns-then-closes-clause-kept : goal.returns-then-closes-clause-kept
returns-then-closes-clause-kept c = closed-kept c.args.comma _ _ c.in-Some.ensures.kept

pub returns-clause-gives : goal.returns-clause-gives
returns-clause-gives c =
    open-answer _ c.args.comma c.in-Some.behind _ c.next_solid.new.self c.requires.no_trivia c.in-Some.ensures.gives c.in-Some.ensures.held (sym c.if-closes.ensures)

pub returns-clause-kept : goal.returns-clause-kept
returns-clause-kept c = open-kept c.args.comma c.in-Some.behind _ c.next_solid.new.self c.in-Some.ensures.kept c.in-Some.ensures.held
