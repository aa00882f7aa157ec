use Rattle.std.proofs.Common.{◌≡◌, take}
use Rattle.ide_ssr_rules.specs.Rules.{lacking}
use Rattle.ide_ssr_rules.proofs.rules.lacking.Given as goal

abbrev pub invariant-loop-name : goal.invariant-loop-name
invariant-loop-name l = l.lacking.items ≡ lacking l.fn.names (take l.name-index l.used)
