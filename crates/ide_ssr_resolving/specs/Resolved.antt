-- What of a rule is told by its pattern.
use Rattle.std.specs.Prelude.{◌≡◌, Ok}
use Rattle.ssr_syntax_tree.specs.ClearPaths.{HasClearPaths}
use Rattle.ssr_base_trees.specs.declared.ids.ScopeId.{ScopeId}
use Rattle.ssr_base_trees.specs.Meanings.{Meanings}
use Rattle.ide_ssr_resolved_rule.specs.Resolved.{ResolvedRule}
use Rattle.ide_ssr_resolving.specs.Used.{used_paths}
use Rattle.ide_ssr_resolving.specs.QualifiedCalls.{qualified_calls_of}
use Rattle.ide_ssr_resolving.specs.Eligible.{eligible_paths_of}

-- The pattern of a rule is a tree whose paths can be told, and the rule's used paths, qualified calls and eligible paths are
-- those of the pattern, as a scope knows them.
pub record IsResolvedBy (m : Meanings) (rule : ResolvedRule) : Type 0 where
  pub scope : ScopeId
  pub clear : HasClearPaths rule.pattern
  pub paths : used_paths m scope rule.names rule.pattern ≡ Ok rule.pattern_paths
  pub calls : rule.qualified_calls ≡ qualified_calls_of m scope rule.pattern rule.pattern_paths
  pub eligible : rule.eligible_paths ≡ eligible_paths_of m rule.pattern rule.qualified_calls rule.pattern_paths
