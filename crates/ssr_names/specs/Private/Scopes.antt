-- Private: the scopes that nodes stand in, as they are kept.
use Rattle.std.specs.Prelude.{ℕ, List, Option, slice_get}
use Rattle.std.specs.Option.{option_and_then}
use Rattle.ssr_base_trees.specs.declared.ids.NodeId.{NodeId}
use Rattle.ssr_base_trees.specs.declared.ids.ScopeId.{ScopeId}
use Rattle.ssr_names.specs.declared.scopes.TreeScopes.{TreeScopes}
use Rattle.ssr_names.specs.declared.scopes.TreeScopes.TheVariants.{One, Each}

abbrev pub scope_at : TreeScopes → ℕ → Option ScopeId
scope_at (One scope) node = scope
scope_at (Each scopes) node = slice_get scopes.items node

abbrev pub scope_in : List TreeScopes → NodeId → Option ScopeId
scope_in trees node = option_and_then (λ scopes. scope_at scopes node.node.0) (slice_get trees node.tree)
