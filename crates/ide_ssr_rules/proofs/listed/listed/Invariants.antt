use Rattle.std.proofs.Common.{◌≡◌, ◌++◌, drop, string_bytes}
use Rattle.ide_ssr_rules.specs.Listed.{listed_from, listed}
use Rattle.ide_ssr_rules.proofs.listed.listed.Given as goal

abbrev pub invariant-loop-place : goal.invariant-loop-place
invariant-loop-place l = string_bytes l.text ++ listed_from l.place (drop l.place l.names) ≡ listed l.names
