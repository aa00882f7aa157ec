use Rattle.std.proofs.Common.{◌≡◌, take, string_bytes}
use Rattle.ssr_set_aside.specs.Fronts as spec
use Rattle.ssr_set_aside.proofs.fronts.blanked.Given as goal

abbrev pub invariant-loop-byte : goal.invariant-loop-byte
invariant-loop-byte l = string_bytes l.blanks ≡ spec.blanked (take l.byte-index l.bytes)
