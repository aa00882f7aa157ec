-- Private: what the steps of a whole match tell.
use Rattle.std.specs.Prelude.{ℕ, ◌≡◌, List, [], ◌∷◌, Some, All, AllPairs}
use Rattle.ssr_syntax_tree.specs.Places.{HasNode, node_of, root_of}
use Rattle.ssr_base_trees.specs.declared.ids.FileRange.{FileRange}
use Rattle.ssr_base_trees.specs.declared.ids.NodeId.{NodeId}
use Rattle.ssr_base_trees.specs.Meanings.{Meanings}
use Rattle.ssr_base_trees.specs.Workspace.{PlacedTree, with_number, original_range, file_span_of}
use Rattle.ide_ssr_resolved_rule.specs.Resolved.{ResolvedRule}
use Rattle.ide_ssr_bindings.specs.declared.bindings.Binding.{Binding}
use Rattle.ide_ssr_matching.specs.Bindings.{bindings_of}
use Rattle.ide_ssr_bindings.specs.Found.{held_range, ShareNoByte}
use Rattle.ide_ssr_search.specs.WholeMatches.{IsPlaced}

-- what placeholders hold is placed, and comes from these ranges
abbrev pub AreRanges : List PlacedTree → ℕ → List Binding → List FileRange → Type 0
AreRanges trees tree [] [] = Unit {0}
AreRanges trees tree [] (range ∷ ranges) = ⊥
AreRanges trees tree (b ∷ bindings) [] = ⊥
AreRanges trees tree (b ∷ bindings) (range ∷ ranges) =
    IsPlaced trees tree (held_range trees tree b) × (held_range trees tree b ≡ Some (file_span_of range)) × AreRanges trees tree bindings ranges

-- what is asked of a match beside that the node matches
pub record IsPlacedMatch (trees : List PlacedTree) (x : NodeId) (bindings : List Binding) : Type 0 where
  pub placed : IsPlaced trees x.tree (original_range trees x)
  pub bindings_placed : All (λ b. IsPlaced trees x.tree (held_range trees x.tree b)) bindings
  pub apart : AllPairs (ShareNoByte trees x.tree) bindings

-- this is what the placeholders of a rule hold where it matches at the node
pub record IsMatched (trees : List PlacedTree) (x : NodeId) (bindings : List Binding) : Type 0 where
  pub meanings : Meanings
  pub rule : ResolvedRule
  pub tree : PlacedTree
  pub is : with_number trees x.tree ≡ Some tree
  pub has : HasNode tree.syntax x.node.0
  pub matches : bindings_of meanings x.tree rule (root_of rule.pattern) (node_of tree.syntax x.node.0) ≡ Some bindings
