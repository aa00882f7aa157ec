use Rattle.std.proofs.Common.{◌≡◌, map, take, string_bytes}
use Rattle.ide_ssr_resolved_rule.proofs.names.Names.of.Given as goal

abbrev pub invariant-loop-text : goal.invariant-loop-text
invariant-loop-text l = l.names ≡ map string_bytes (take l.text-index l.texts)
