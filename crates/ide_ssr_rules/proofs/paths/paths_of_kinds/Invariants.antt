use Rattle.std.proofs.Common.{◌≡◌, ◌++◌, drop, map}
use Rattle.std.specs.Prelude.{flat_map}
use Rattle.ide_ssr_rules.specs.Paths.{paths_of_kind, told_path}
use Rattle.ide_ssr_rules.proofs.paths.paths_of_kinds.Given as goal

abbrev pub invariant-loop-kind : goal.invariant-loop-kind
invariant-loop-kind l = map told_path l.paths.items ++ flat_map (paths_of_kind l.names) (drop l.kind-index l.kinds) ≡ flat_map (paths_of_kind l.names) l.kinds
