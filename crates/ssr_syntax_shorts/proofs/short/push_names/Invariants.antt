use Rattle.std.proofs.Common.{◌≡◌, ◌++◌, map, take}
use Rattle.ssr_syntax_shorts.specs.Shorts.{moved}
use Rattle.ssr_syntax_shorts.proofs.short.push_names.Given as goal

abbrev pub invariant-loop-name : goal.invariant-loop-name
invariant-loop-name l = l.names.items ≡ l.initial.names.items ++ map (moved l.count) (take l.name-index l.others)
