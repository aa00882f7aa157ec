-- A rule that resolves, as one value.
use Rattle.std.specs.Prelude.{ℕ, Bool, List, [], Option, slice_index_or}
use Rattle.ssr_syntax_kinds.specs.declared.kinds.SyntaxKind.{SyntaxKind}
use Rattle.ssr_syntax_kinds.specs.declared.fragment.Fragment.{Fragment}
use Rattle.ssr_syntax_kinds.specs.declared.reach.Reach.{Reach}
use Rattle.ssr_syntax_tree.specs.Syntax.{Syntax}
use Rattle.ide_ssr_resolved_rule.specs.declared.constraints.Constraint.{Constraint}
use Rattle.ide_ssr_resolved_rule.specs.Constraints.{are_met}
use Rattle.ide_ssr_resolved_rule.specs.declared.used_paths.UsedPath.{UsedPath}
use Rattle.ide_ssr_resolved_rule.specs.declared.qualified_calls.QualifiedCall.{QualifiedCall}

-- One kind of a rule that resolves; that of a search pattern has no template. Its trees were read in the reach. The category
-- is what the template was read as, or the pattern, where there is none. With each tree goes which of its paths are used, in order, and with
-- the pattern its qualified calls, and which of its used paths are eligible.
pub record ResolvedRule : Type 0 where
  pub names : List (List ℕ)
  pub constraints : List (List Constraint)
  pub reach : Reach
  pub category : Fragment
  pub pattern : Syntax
  pub template : Option Syntax
  pub pattern_paths : List UsedPath
  pub template_paths : List UsedPath
  pub qualified_calls : List QualifiedCall
  pub eligible_paths : List UsedPath

-- whether a node of a kind meets all constraints of the placeholder with this place among the names
unfoldable pub meets : ResolvedRule → ℕ → SyntaxKind → Bool
meets rule placeholder kind = are_met (slice_index_or rule.constraints placeholder []) kind
