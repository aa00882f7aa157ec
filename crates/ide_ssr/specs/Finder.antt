-- What contracts see of a finder: the workspace, the provider, what the search is made for, and the rules in their order.
use Rattle.std.specs.Prelude.{List}
use Rattle.ssr_base_trees.specs.Meanings.{Meanings}
use Rattle.ssr_base_trees.specs.Workspace.{Workspace}
use Rattle.ide_ssr_resolved_rule.specs.Resolved.{ResolvedRule}
use Rattle.ide_ssr_search.specs.Context.{Context}

pub record FinderWith (S : Type 0) : Type 0 where
  pub workspace : Workspace
  pub semantics : S
  pub context : Context
  pub rules : List ResolvedRule

-- what contracts see of a finder, with what the provider tells in the provider's place
pub record Finder : Type 0 where
  pub workspace : Workspace
  pub meanings : Meanings
  pub context : Context
  pub rules : List ResolvedRule

abbrev pub finder_of : {S : Type 0} → (S → Meanings) → FinderWith S → Finder
finder_of meanings finder = record {
  workspace = finder.workspace;
  meanings = meanings finder.semantics;
  context = finder.context;
  rules = finder.rules;
}
