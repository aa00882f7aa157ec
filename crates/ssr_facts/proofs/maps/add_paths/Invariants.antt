use Rattle.std.proofs.Common.{◌≡◌, ◌++◌}
use Rattle.std.specs.Prelude.{filter}
use Rattle.std.specs.Map.{lookup}
use Rattle.ssr_base_trees.specs.declared.semantics.Res.{Res}
use Rattle.ssr_base_trees.specs.Workspace.{same_id}
use Rattle.ssr_facts.specs.Tables.{stands_for}
use Rattle.ssr_facts.specs.Usages.{uses_of}
use Rattle.ssr_facts.proofs.maps.add_paths.Given as goal

abbrev pub invariant-loop-node : goal.invariant-loop-node
invariant-loop-node l =
    (r : Res) → uses_of l.usages r ≡ uses_of l.fn.usages r ++ filter (λ node. stands_for r (lookup (same_id node) l.fn.paths.entries)) l.yielded
