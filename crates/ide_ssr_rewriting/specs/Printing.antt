-- What used paths of a template are written as for a match: as its scope reaches the definitions that they name.
use Rattle.std.specs.Prelude.{ℕ, List, [], map, Option, unwrap_or}
use Rattle.std.specs.Option.{option_and_then}
use Rattle.ssr_base_trees.specs.declared.ids.NodeId.{NodeId}
use Rattle.ssr_base_trees.specs.declared.ids.ScopeId.{ScopeId}
use Rattle.ssr_base_trees.specs.declared.semantics.Res.{Res}
use Rattle.ssr_base_trees.specs.declared.semantics.Res.TheVariants as res
use Rattle.ssr_base_trees.specs.Meanings.{Meanings}
use Rattle.ide_ssr_resolved_rule.specs.Resolved.{ResolvedRule}

-- What a used path that names a definition is written as: the path by which the scope reaches this. A match that a search
-- finds stands in a scope, which reaches all that its rule's template names. What names no definition isn't printed.
abbrev pub printed_as : Meanings → Option ScopeId → Res → List ℕ
printed_as m scope (res.Def def) = unwrap_or (option_and_then (λ scope. m.path_from scope def) scope) []
printed_as m scope _ = []

-- what the used paths of a rule's template are written as for a match at this node
abbrev pub printed_paths : Meanings → ResolvedRule → NodeId → List (List ℕ)
printed_paths m rule node = map (λ path. printed_as m (m.scope node) path.res) rule.template_paths
