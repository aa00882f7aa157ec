-- Which rules resolve, and what of a rule is used then.
use Rattle.std.specs.Prelude.{ℕ, List, [], ◌∷◌, Option, Result, Ok, Err}
use Rattle.std.specs.Option.{option_map_or}
use Rattle.ssr_syntax_tree.specs.declared.number.NodeNo.{NodeNo}
use Rattle.ssr_syntax_tree.specs.Places.{node_of, text_of}
use Rattle.ssr_syntax_tree.specs.Syntax.{Syntax}
use Rattle.ssr_base_trees.specs.declared.ids.ScopeId.{ScopeId}
use Rattle.ssr_base_trees.specs.Meanings.{Meanings}
use Rattle.ide_ssr_resolved_rule.specs.declared.constraints.Constraint.{Constraint}
use Rattle.ide_ssr_rules.specs.declared.kinds.ParsedRule.{ParsedRule}
use Rattle.ide_ssr_refusals.specs.declared.refusals.Refusal.TheVariants as r
use Rattle.ide_ssr_refusals.specs.declared.refusals.Refusal.{Refusal}
use Rattle.ide_ssr_refusals.specs.Refusals.{◌>>=◌}
use Rattle.ide_ssr_resolved_rule.specs.declared.used_paths.UsedPath.{UsedPath}
use Rattle.ide_ssr_resolving.specs.QualifiedCalls.{qualified_calls_of}
use Rattle.ide_ssr_resolving.specs.Eligible.{eligible_paths_of}
use Rattle.ide_ssr_resolving.specs.Used.{used_paths}
use Rattle.ide_ssr_resolved_rule.specs.Resolved.{ResolvedRule}

-- the used paths of a tree, or the refusal of the one that doesn't resolve, with its text
abbrev pub or_refusal : Syntax → Result (List UsedPath) NodeNo → Result (List UsedPath) Refusal
or_refusal tree (Ok paths) = Ok paths
or_refusal tree (Err node) = Err (r.UnresolvedPath (text_of (node_of tree node.0)))

module _ (m : Meanings) (scope : ScopeId) (names : List (List ℕ)) where
  -- the used paths of a tree of which all resolve that have to
  unfoldable pub paths_in : Syntax → Result (List UsedPath) Refusal
  paths_in tree = or_refusal tree (used_paths m scope names tree)

  -- the used paths of a template of which all resolve that have to; without a template there are none
  abbrev pub paths_in_template : Option Syntax → Result (List UsedPath) Refusal
  paths_in_template template = option_map_or paths_in template (Ok [])

module _ (m : Meanings) (scope : ScopeId) (names : List (List ℕ)) (constraints : List (List Constraint)) where
  -- what a kind resolves to, with the used paths of its template and of its pattern
  abbrev pub resolved_with : ParsedRule → List UsedPath → List UsedPath → ResolvedRule
  resolved_with kind in_template in_pattern = record {
    names = names;
    constraints = constraints;
    reach = kind.reach;
    category = kind.category;
    pattern = kind.pattern;
    template = kind.template;
    pattern_paths = in_pattern;
    template_paths = in_template;
    qualified_calls = qualified_calls_of m scope kind.pattern in_pattern;
    eligible_paths = eligible_paths_of m kind.pattern (qualified_calls_of m scope kind.pattern in_pattern) in_pattern;
  }

  -- a kind is resolved with its paths first, and of those with its template's
  unfoldable pub resolved_kind : ParsedRule → Result ResolvedRule Refusal
  resolved_kind kind = do
    in_template ← paths_in_template m scope names kind.template
    in_pattern ← paths_in m scope names kind.pattern
    Ok (resolved_with kind in_template in_pattern)

  -- kinds are resolved in their order
  abbrev pub resolved_kinds : List ParsedRule → Result (List ResolvedRule) Refusal
  resolved_kinds [] = Ok []
  resolved_kinds (kind ∷ kinds) = do
    first ← resolved_kind kind
    rest ← resolved_kinds kinds
    Ok (first ∷ rest)
