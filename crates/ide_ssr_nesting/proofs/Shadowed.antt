-- What is shadowed is never kept.
use Rattle.std.proofs.Common.{◌≡◌, ◌<◌, inl, inr, List, Contains, sym, ◌∙◌, subst, arith}
use Rattle.ssr_base_trees.specs.Workspace.{PlacedTree, original_range}
use Rattle.ssr_base_trees.specs.Laws.{IsBelow}
use Rattle.ide_ssr_bindings.specs.Found.{FoundMatch, held_range}
use Rattle.ide_ssr_nesting.specs.Kept.{LiesWithin, IsOver, LiesInPlaceholder, Fits, IsShadowedBy, IsShadowed, AreEnough}
use Rattle.ide_ssr_nesting.specs.Laws.{KeptOfEnough}

module _ (trees : List PlacedTree) where
  -- what is over a match is over those of later rules at its node
  over_later : (j k m : FoundMatch) → k.node ≡ m.node → k.rule < m.rule → IsOver trees j k → IsOver trees j m
  over_later j k m node rule (inl below) = inl (subst (λ x. IsBelow trees x j.node) node below)
  over_later j k m node rule (inr same) = let less = same.1 in inr (same.0 ∙ node, omega arith)

  -- matches at one node lie in the same placeholders
  pub lies_at_node : (j k m : FoundMatch) → k.node ≡ m.node → LiesInPlaceholder trees j m → LiesInPlaceholder trees j k
  lies_at_node j k m node lies = (
    lies.0,
    record {
      binding = lies.1.binding;
      is = lies.1.is;
      within = subst (λ x. LiesWithin (original_range trees x) (held_range trees j.node.tree lies.1.binding)) (sym node) lies.1.within;
    },
  )

  fits_earlier : (kept : List FoundMatch) (k m : FoundMatch) → IsShadowedBy trees k m → Fits trees kept m → Fits trees kept k
  fits_earlier kept k m by fits j at over = lies_at_node j k m by.node (fits j at (over_later j k m by.node by.rule over))

  module _ (found enough kept : List FoundMatch) (are : AreEnough trees (Contains found) enough)
      (keeps : (k : FoundMatch) → Contains enough k → Fits trees kept k → Contains kept k) where
    not_shadowed : (m : FoundMatch) → Fits trees kept m → IsShadowed trees enough m → ⊥
    not_shadowed m fits shadowed =
        let k = shadowed.0 in
        let by = shadowed.2 in
        by.outside (fits k (keeps k shadowed.1 (fits_earlier kept k m by fits)) (inr (by.node, by.rule)))

    -- what fits is among those that are enough
    among : (m : FoundMatch) → Contains found m → Fits trees kept m → Contains enough m
    among m at fits = elim (are.enough m at) [ inl is ↦ is | inr shadowed ↦ absurd (not_shadowed m fits shadowed) ]

  pub kept_of_enough : KeptOfEnough trees
  kept_of_enough found enough kept are = (
    λ is. record {
      in_order = is.in_order;
      are = λ m. (
        λ at. let told = (is.are m).0 at in (are.found m told.0, told.1),
        λ told. (is.are m).1 (among found enough kept are (λ k at fits. (is.are k).1 (at, fits)) m told.0 told.1, told.1),
      );
    },
    λ is. record {
      in_order = is.in_order;
      are = λ m. (
        λ at. let told = (is.are m).0 at in (among found enough kept are (λ k at fits. (is.are k).1 (are.found k at, fits)) m told.0 told.1, told.1),
        λ told. (is.are m).1 (are.found m told.0, told.1),
      );
    },
  )
