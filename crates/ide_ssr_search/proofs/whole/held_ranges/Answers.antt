use Rattle.std.proofs.Common.{◌++◌, ◌∷◌, [], get_or, take, sym, ap, ◌∙◌, subst}
use Rattle.std.specs.Option.{IsSomeAnd, option_map}
use Rattle.std.proofs.lemmas.List.{take_more}
use Rattle.ssr_base_trees.specs.Workspace.{trees, file_span_of}
use Rattle.ide_ssr_bindings.specs.declared.bindings.Binding.{Binding}
use Rattle.ide_ssr_bindings.specs.Found.{held_range, node_binding}
use Rattle.ide_ssr_search.specs.Private.Bounds.{LiesInBounds}
use Rattle.ide_ssr_search.specs.Private.Whole.{AreRanges}
use Rattle.ide_ssr_search.proofs.Apart.{ranges_push}
use Rattle.ide_ssr_search.proofs.Placed.{placed_by}
use Rattle.ide_ssr_search.proofs.whole.held_ranges.Goals as goal

abbrev none : Binding
none = node_binding 0 0

pub returns-in_default : goal.returns-in_default
returns-in_default c = λ all.
    let ts = trees c.args.workspace.now in
    let range = held_range ts c.args.tree (get_or c.args.bindings.now c.loop-binding.binding-index none) in
    c.in_default.ensures.none
    (subst (λ o. IsSomeAnd o (LiesInBounds c.args.bounds)) (sym c.original_range.ensures)
    ((placed_by ts c.args.tree c.args.bounds range c.requires).1 (all c.loop-binding.binding-index none c.loop-binding-test.true)))

pub loop-binding-preserved : goal.loop-binding-preserved
loop-binding-preserved c =
    let ts = trees c.args.workspace.now in
    let bindings = c.args.bindings.now in
    let n = c.loop-binding.binding-index in
    let range = held_range ts c.args.tree (get_or bindings n none) in
    let is = sym c.original_range.ensures ∙ ap (option_map file_span_of) c.in-Some.ensures.range in
    let placed = (placed_by ts c.args.tree c.args.bounds range c.requires).0 (subst (λ o. IsSomeAnd o (LiesInBounds c.args.bounds)) (sym is) c.in-Some.ensures.placed) in
    let now = ranges_push ts c.args.tree (take n bindings) c.loop-binding.ranges.items (get_or bindings n none) c.in-Some.range c.loop-binding.invariant placed is in
    subst (λ bs. AreRanges ts c.args.tree bs c.push.new.self.items) (sym (take_more bindings n none c.loop-binding-test.true))
    (subst (AreRanges ts c.args.tree (take n bindings ++ get_or bindings n none ∷ [])) (sym c.in_ok-push.ensures.items) now)
