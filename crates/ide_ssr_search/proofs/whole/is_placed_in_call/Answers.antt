use Rattle.std.proofs.Common.{◌≡◌, true, false, not, ap, sym, ◌∙◌, subst}
use Rattle.std.specs.Option.{IsSomeAnd}
use Rattle.std.proofs.lemmas.Option.{MatchOption-at_some}
use Rattle.ssr_base_trees.specs.Workspace.{trees, original_range}
use Rattle.ide_ssr_search.specs.Private.Bounds.{LiesInBounds}
use Rattle.ide_ssr_search.proofs.Placed.{placed_by, placed_match, placed_told, none_told}
use Rattle.ide_ssr_search.proofs.whole.is_placed_in_call.Goals as goal

pub returns-then-is_none : goal.returns-then-is_none
returns-then-is_none c =
    let ts = trees c.args.workspace.now in (
      λ h. let e : false ≡ true = h in cc,
      λ placed. absurd (none_told c.placed.result c.placed.ensures.none (c.is_none.ensures ∙ ap not c.if-is_none.true)
          (subst (λ o. IsSomeAnd o (LiesInBounds c.args.bounds)) (sym c.original_range.ensures)
          ((placed_by ts c.args.node.tree c.args.bounds (original_range ts c.args.node) c.requires).1 placed.placed))),
    )

pub returns-in-Some : goal.returns-in-Some
returns-in-Some c =
    let ts = trees c.args.workspace.now in
    let lies = placed_told c.args.bounds c.original_range.result c.placed.result c.placed.ensures.range c.placed.ensures.placed (c.is_none.ensures ∙ ap not c.if-is_none.false) in
    placed_match ts c.args.node c.args.bindings.now c.in-Some.ranges.items c.deref.result.now c.are_apart.result
    ((placed_by ts c.args.node.tree c.args.bounds (original_range ts c.args.node) c.requires).0
    (subst (λ o. IsSomeAnd o (LiesInBounds c.args.bounds)) c.original_range.ensures lies))
    (MatchOption-at_some _ _ c.in-Some.ranges c.in-Some.is c.in_ok-ranges.ensures)
    c.deref.ensures.value c.are_apart.ensures
