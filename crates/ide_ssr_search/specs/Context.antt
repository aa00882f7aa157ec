-- What a search is made for.
use Rattle.std.specs.Prelude.{List, Option}
use Rattle.ssr_base_trees.specs.declared.ids.NodeId.{NodeId}
use Rattle.ssr_base_trees.specs.declared.ids.ScopeId.{ScopeId}
use Rattle.ssr_base_trees.specs.Workspace.{FileSpan}

-- the scope in which the names of rules are looked up, the ranges that are searched, none of which is empty (without any,
-- all files are), and the function around the position
pub record Context : Type 0 where
  pub scope : ScopeId
  pub restrictions : List FileSpan
  pub function : Option NodeId
