-- When a rule matches as a whole at a node.
use Rattle.std.specs.Prelude.{ℕ, List, Option, Some, None, All, AllPairs, IfSome}
use Rattle.std.specs.Option.{IsSomeAnd}
use Rattle.ssr_syntax_tree.specs.Places.{node_of, root_of}
use Rattle.ssr_base_trees.specs.declared.ids.NodeId.{NodeId}
use Rattle.ssr_base_trees.specs.Meanings.{Meanings}
use Rattle.ssr_base_trees.specs.Workspace.{PlacedTree, FileSpan, with_number, original_range}
use Rattle.ssr_base_trees.specs.Laws.{LiesIn}
use Rattle.ide_ssr_resolved_rule.specs.Resolved.{ResolvedRule}
use Rattle.ide_ssr_bindings.specs.declared.bindings.Binding.{Binding}
use Rattle.ide_ssr_bindings.specs.Found.{held_range, ShareNoByte}
use Rattle.ide_ssr_matching.specs.Matching.{Matches}
use Rattle.ide_ssr_search.specs.Permitted.{arguments_range}
use Rattle.ide_ssr_search.specs.Printing.{CanBeWritten}

-- in a tree that a macro call stands for, a range lies in the call's arguments
abbrev pub LiesInArguments : List PlacedTree → ℕ → FileSpan → Type 0
LiesInArguments trees t range =
    IsSomeAnd (with_number trees t) (λ p. IfSome p.call (λ call. IsSomeAnd (arguments_range trees call) (LiesIn range)))

-- there is a range, of something in this tree, and in a tree that a macro call stands for it lies in the call's arguments
abbrev pub IsPlaced : List PlacedTree → ℕ → Option FileSpan → Type 0
IsPlaced trees t range = IsSomeAnd range (LiesInArguments trees t)

-- The node matches the root of the pattern by what names mean, it and what the placeholders hold are placed, no two
-- placeholders share a byte, and the template can be written there.
pub record IsWholeMatch (trees : List PlacedTree) (m : Meanings) (rule : ResolvedRule) (x : NodeId) (bindings : List Binding) : Type 0 where
  pub matches : IsSomeAnd (with_number trees x.tree) (λ p. Matches m x.tree rule (root_of rule.pattern) (node_of p.syntax x.node.0) bindings)
  pub placed : IsPlaced trees x.tree (original_range trees x)
  pub bindings_placed : All (λ b. IsPlaced trees x.tree (held_range trees x.tree b)) bindings
  pub apart : AllPairs (ShareNoByte trees x.tree) bindings
  pub written : CanBeWritten m rule x

-- what the placeholders hold in a whole match, or that there is none
abbrev pub TellsWhole : List PlacedTree → Meanings → ResolvedRule → NodeId → Option (List Binding) → Type 0
TellsWhole trees m rule x None = (bindings : List Binding) → ¬ IsWholeMatch trees m rule x bindings
TellsWhole trees m rule x (Some bindings) = IsWholeMatch trees m rule x bindings
