use Rattle.ide_ssr.proofs.EachOnce.{each_once}
use Rattle.ide_ssr.proofs.Flattening.{flattening_more, flattening_all, none_inside}
use Rattle.ide_ssr.proofs.Sizes.{smaller}
use Rattle.ide_ssr.proofs.matches.SsrMatches.flattened.Goals as goal

pub loop-flat-smaller : goal.loop-flat-smaller
loop-flat-smaller c =
    smaller c.loop-flat.left.matches.items c.flatten_last.new.left.items c.loop-flat.flat.matches.items c.flatten_last.new.flat.items c.in_ok-flatten_last.field-0
    c.in_ok-flatten_last.ensures c.if-branch.true

pub loop-flat-preserved : goal.loop-flat-preserved
loop-flat-preserved c =
    flattening_more c.args.self.matches.items c.loop-flat.left.matches.items c.flatten_last.new.left.items c.loop-flat.flat.matches.items c.flatten_last.new.flat.items
    c.in_ok-flatten_last.field-0 c.loop-flat.invariant c.in_ok-flatten_last.ensures c.if-branch.true

pub returns-clause-flattens : goal.returns-clause-flattens
returns-clause-flattens c =
    flattening_all c.args.self.matches.items c.loop-flat.left.matches.items c.flatten_last.new.left.items c.loop-flat.flat.matches.items c.flatten_last.new.flat.items
    c.reverse.new.self.items c.in_ok-flatten_last.field-0 c.loop-flat.invariant c.in_ok-flatten_last.ensures c.if-branch.false c.reverse.ensures.items

pub returns-clause-none_inside : goal.returns-clause-none_inside
returns-clause-none_inside c =
    none_inside c.args.self.matches.items c.reverse.new.self.items
    (flattening_all c.args.self.matches.items c.loop-flat.left.matches.items c.flatten_last.new.left.items c.loop-flat.flat.matches.items c.flatten_last.new.flat.items
    c.reverse.new.self.items c.in_ok-flatten_last.field-0 c.loop-flat.invariant c.in_ok-flatten_last.ensures c.if-branch.false c.reverse.ensures.items)

pub returns-clause-each_once : goal.returns-clause-each_once
returns-clause-each_once c = λ finder shown.
    each_once finder c.args.self.matches.items c.reverse.new.self.items shown
    (flattening_all c.args.self.matches.items c.loop-flat.left.matches.items c.flatten_last.new.left.items c.loop-flat.flat.matches.items c.flatten_last.new.flat.items
    c.reverse.new.self.items c.in_ok-flatten_last.field-0 c.loop-flat.invariant c.in_ok-flatten_last.ensures c.if-branch.false c.reverse.ensures.items)
