use Rattle.std.proofs.Common.{◌≡◌, drop}
use Rattle.ide_ssr_rules.specs.Elements.{name_of}
use Rattle.ide_ssr_rules.specs.StandIns.{first_of}
use Rattle.ide_ssr_rules.proofs.stand_ins.first_name.Given as goal

abbrev pub invariant-loop-element : goal.invariant-loop-element
invariant-loop-element l = first_of name_of (drop l.element-index l.elements) ≡ first_of name_of l.elements
