use Rattle.std.proofs.Common.{◌≡◌, ◌++◌, drop, map}
use Rattle.std.specs.Prelude.{flat_map}
use Rattle.ssr_syntax_tree.specs.Places.{nodes_of}
use Rattle.ide_ssr_rules.specs.Paths.{paths_at, told_path}
use Rattle.ide_ssr_rules.proofs.paths.push_paths.Given as goal

abbrev pub invariant-loop-number : goal.invariant-loop-number
invariant-loop-number l = map told_path l.paths.items ++ flat_map (paths_at l.side.names.now l.side.is_template l.side.tree.now) (drop l.number (nodes_of l.side.tree.now))
    ≡ map told_path l.initial.paths.items ++ flat_map (paths_at l.side.names.now l.side.is_template l.side.tree.now) (nodes_of l.side.tree.now)
