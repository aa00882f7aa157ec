use Rattle.std.proofs.Common.{ℕ}
use Rattle.ssr_set_aside.specs.Parts.{AreUnits}
use Rattle.ssr_set_aside.proofs.units.are_units.Given as goal

-- units from here on are units from the first one on
abbrev pub invariant-loop-unit : goal.invariant-loop-unit
invariant-loop-unit l = (to : ℕ) → AreUnits l.text l.tokens l.at to → AreUnits l.text l.tokens l.from to
