use Rattle.std.proofs.Common.{◌≡◌, drop}
use Rattle.ide_ssr_rules.specs.StandIns.{first_of, stand_in_text}
use Rattle.ide_ssr_rules.proofs.stand_ins.spelled_stand_in.Given as goal

abbrev pub invariant-loop-element : goal.invariant-loop-element
invariant-loop-element l = first_of (stand_in_text l.fn.names) (drop l.element-index l.elements) ≡ first_of (stand_in_text l.fn.names) l.elements
