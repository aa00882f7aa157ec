use Rattle.std.proofs.Common.{◌≡◌, map, take, string_bytes}
use Rattle.ssr_changes.specs.Naming.{normal}
use Rattle.ssr_changes.proofs.naming.normal_names.Given as goal

-- the names so far
abbrev pub invariant-loop-name : goal.invariant-loop-name
invariant-loop-name l = map string_bytes l.normal.items ≡ map (λ name. normal (string_bytes name)) (take l.name-index l.names)
