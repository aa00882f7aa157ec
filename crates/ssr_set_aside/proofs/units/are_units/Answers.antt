use Rattle.ssr_set_aside.proofs.PartLaws.{unit_from, units_to}
use Rattle.ssr_set_aside.proofs.units.are_units.Goals as goal

pub loop-unit-preserved : goal.loop-unit-preserved
loop-unit-preserved c = λ to rest.
    unit_from c.args.text.now c.args.tokens.now _ c.args.from c.loop-unit.at to c.if-unit-at.false (c.in_ok-is_unit.ensures c.if-not-branch.false)
    c.loop-unit.invariant rest

pub returns : goal.returns
returns c = λ yes. c.loop-unit.invariant c.args.to (units_to c.args.text.now c.args.tokens.now c.loop-unit.at c.args.to yes)
