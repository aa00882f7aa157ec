use Rattle.std.proofs.Common.{◌≡◌, ◌++◌, flat_map, codes, string_bytes}
use Rattle.ssr_diff.specs.Names.{escape}
use Rattle.ssr_diff.proofs.names.quoted.Given as goal

abbrev pub invariant-loop-c : goal.invariant-loop-c
invariant-loop-c l = string_bytes l.text ≡ codes "\"" ++ flat_map escape l.yielded
