-- Which templates can be written for a match: a path in them that names a definition is written as a scope reaches it.
use Rattle.std.specs.Prelude.{All, IfSome, IsSome}
use Rattle.std.specs.Option.{IsSomeAnd}
use Rattle.ssr_base_trees.specs.declared.ids.NodeId.{NodeId}
use Rattle.ssr_base_trees.specs.declared.ids.ScopeId.{ScopeId}
use Rattle.ssr_base_trees.specs.declared.semantics.Res.{Res}
use Rattle.ssr_base_trees.specs.declared.semantics.Res.TheVariants as res
use Rattle.ssr_base_trees.specs.Meanings.{Meanings}
use Rattle.ide_ssr_resolved_rule.specs.Resolved.{ResolvedRule}

-- a scope reaches a definition by some path; what else a path stands for is written as in the template
abbrev pub IsReached : Meanings → ScopeId → Res → Type 0
IsReached m scope (res.Def def) = IsSome (m.path_from scope def)
IsReached m scope _ = Unit {0}

-- The template of a rule, if it has one, can be written at a node: the node stands in a scope, which reaches what the used
-- paths of the template stand for. A search pattern asks for nothing.
abbrev pub CanBeWritten : Meanings → ResolvedRule → NodeId → Type 0
CanBeWritten m rule x =
    IfSome rule.template (λ _. IsSomeAnd (m.scope x) (λ scope. All (λ path. IsReached m scope path.res) rule.template_paths))
