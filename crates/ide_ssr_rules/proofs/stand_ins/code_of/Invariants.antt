use Rattle.std.proofs.Common.{◌≡◌, take, string_bytes}
use Rattle.ide_ssr_rules.specs.StandIns.{code_of}
use Rattle.ide_ssr_rules.proofs.stand_ins.code_of.Given as goal

abbrev pub invariant-loop-element : goal.invariant-loop-element
invariant-loop-element l = string_bytes l.code ≡ code_of (take l.element-index l.elements)
