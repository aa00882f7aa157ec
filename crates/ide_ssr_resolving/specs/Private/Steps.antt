-- Private: what the walk does at a node.
use Rattle.std.specs.Prelude.{ℕ, List, if◌then◌else◌}
use Rattle.std.specs.Option.{option_map_or}
use Rattle.ssr_base_trees.specs.declared.ids.ScopeId.{ScopeId}
use Rattle.ssr_base_trees.specs.declared.semantics.Res.{Res}
use Rattle.ssr_base_trees.specs.Meanings.{Meanings}
use Rattle.ssr_syntax_tree.specs.Places.{Node}
use Rattle.ssr_syntax_tree.specs.Syntax.{Forest}
use Rattle.ide_ssr_resolving.specs.declared.used.Step.{Step}
use Rattle.ide_ssr_resolving.specs.declared.used.Step.TheVariants as steps
use Rattle.ide_ssr_resolving.specs.Resolving.{resolution}
use Rattle.ide_ssr_resolving.specs.Used.{is_path, ends_in_self, is_whole, is_usable}

-- what the walk does at a path that resolves to this
abbrev pub step_by : Meanings → Res → Step
step_by m res = if is_usable m res then steps.Use res else steps.Enter

module _ (m : Meanings) (scope : ScopeId) (names : List (List ℕ)) where
  -- what the walk does at a path that doesn't end in `self`
  abbrev pub path_step : Forest → Step
  path_step path = if is_whole names path then option_map_or (step_by m) (resolution m scope path) steps.Refuse else steps.Enter

  abbrev pub step_of : Node → Step
  step_of node =
      if is_path node then if ends_in_self node.children then steps.Pass else path_step node.children else steps.Enter
