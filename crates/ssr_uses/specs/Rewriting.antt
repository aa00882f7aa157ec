-- The edits that a rule makes, and the text of a file with its edit made.
use Rattle.std.specs.Prelude.{ℕ, ◌≡◌, List, length, Option, Some, None, Ok}
use Rattle.std.specs.BTreeMap.{BTreeMap}
use Rattle.ssr_syntax_tree.specs.Syntax.{Syntax, source_of}
use Rattle.ssr_base_trees.specs.declared.ids.FileId.{FileId}
use Rattle.ssr_base_trees.specs.declared.ids.FilePosition.{FilePosition}
use Rattle.ssr_base_trees.specs.declared.ids.FileRange.{FileRange}
use Rattle.ssr_base_trees.specs.declared.ids.ScopeId.{ScopeId}
use Rattle.ssr_base_trees.specs.Changes.{Change, replaced}
use Rattle.ssr_base_trees.specs.Meanings.{Meanings}
use Rattle.ssr_base_trees.specs.Workspace.{Workspace}
use Rattle.ide_ssr_resolved_rule.specs.Resolved.{ResolvedRule}
use Rattle.ide_ssr_rules.specs.Resolved.{resolved_kinds}
use Rattle.ide_ssr_rules.specs.Rules.{Rule, rule_reading}
use Rattle.ide_ssr_search.specs.Making.{IsContext}
use Rattle.ide_ssr.specs.Edits.{Edits}
use Rattle.ide_ssr.specs.Finder.{Finder}

-- a text is read as a rule, which resolves to these kinds in a scope
pub record ResolvesTo (m : Meanings) (scope : ScopeId) (text : List ℕ) (kinds : List ResolvedRule) : Type 0 where
  pub rule : Rule
  pub is_read : rule_reading text ≡ Ok rule
  pub resolves : resolved_kinds m scope rule.names rule.constraints rule.kinds ≡ Ok kinds

-- a finder of one rule in a workspace, at a position, in these ranges or everywhere
pub record Searches (w : Workspace) (m : Meanings) (position : FilePosition) (ranges : List FileRange) (rule : List ℕ) (finder : Finder) : Type 0 where
  pub workspace : finder.workspace ≡ w
  pub meanings : finder.meanings ≡ m
  pub context : IsContext w m position ranges finder.context
  pub rules : ResolvesTo m finder.context.scope rule finder.rules

-- the edits that such a finder tells
pub record AreEdits (w : Workspace) (m : Meanings) (position : FilePosition) (ranges : List FileRange) (rule : List ℕ) (edits : BTreeMap FileId (List Change)) : Type 0 where
  pub finder : Finder
  pub searches : Searches w m position ranges rule finder
  pub tells : Edits finder (Ok edits)

-- the text of a tree with its edit made, if it has one
abbrev pub edited : Syntax → Option (List Change) → List ℕ
edited tree None = source_of tree
edited tree (Some changes) = replaced (source_of tree) 0 (length (source_of tree)) changes
