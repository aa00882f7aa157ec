use Rattle.std.proofs.Common.{◌≡◌, ◌++◌, take}
use Rattle.ide_ssr_rules.specs.Elements.{names_of}
use Rattle.ide_ssr_rules.proofs.sides.with_names.Given as goal

abbrev pub invariant-loop-element : goal.invariant-loop-element
invariant-loop-element l = l.names ≡ l.initial.names ++ names_of (take l.element-index l.elements)
