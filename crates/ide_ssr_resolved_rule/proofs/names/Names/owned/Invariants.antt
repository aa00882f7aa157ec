use Rattle.std.proofs.Common.{◌≡◌, map, take, string_bytes}
use Rattle.ide_ssr_resolved_rule.proofs.names.Names.owned.Given as goal

abbrev pub invariant-loop-name : goal.invariant-loop-name
invariant-loop-name l = map string_bytes l.texts.items ≡ take l.name-index l.name-items
