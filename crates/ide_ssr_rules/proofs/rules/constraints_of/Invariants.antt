use Rattle.std.proofs.Common.{◌≡◌, take}
use Rattle.ide_ssr_rules.specs.Elements.{constraints_of}
use Rattle.ide_ssr_rules.proofs.rules.constraints_of.Given as goal

abbrev pub invariant-loop-element : goal.invariant-loop-element
invariant-loop-element l = l.sets.items ≡ constraints_of (take l.element-index l.elements)
