use Rattle.std.proofs.Common.{◌≡◌, ◌+◌, ◌++◌, ◌∷◌, [], false, length, refl, sym, ap, ◌∙◌, subst, arith}
use Rattle.std.proofs.lemmas.Option.{slice_get_read}
use Rattle.ssr_syntax_tree.specs.Places.{node_of}
use Rattle.ssr_base_trees.specs.Workspace.{trees}
use Rattle.ide_ssr_debugging.specs.Expressions.{asks}
use Rattle.ide_ssr_debugging.specs.Private.Entries.{AreToldAt}
use Rattle.ide_ssr_debugging.specs.Debugging.{Entry}
use Rattle.ide_ssr_debugging.proofs.Telling.{asked_by, told_not, told_more, told_all}
use Rattle.ide_ssr_debugging.proofs.entries.told_at.Goals as goal

pub loop-place-preserved-then-not-asks : goal.loop-place-preserved-then-not-asks
loop-place-preserved-then-not-asks g c =
    let rules = c.args.rules.now in
    let p = c.loop-place.place in
    let rule = c.index-rules-place.result in
    let at = slice_get_read rules (length rules) p rule refl c.loop-place-test.true c.index-rules-place.is in
    told_not (trees c.args.workspace.now) (g.S.Semantics.meanings c.args.semantics.now) rules c.args.tree.now c.args.node p rule c.loop-place.told.items at
    (asked_by rule c.pattern.result.now c.args.tree.now c.args.node.node.0 _ _ _ c.pattern.ensures c.kind.ensures c.kind-in-loop-place.ensures c.asks.ensures ∙ c.if-not-asks.true)
    c.loop-place.invariant

pub loop-place-preserved : goal.loop-place-preserved
loop-place-preserved g c =
    let m = g.S.Semantics.meanings c.args.semantics.now in
    let rules = c.args.rules.now in
    let p = c.loop-place.place in
    let rule = c.index-rules-place.result in
    let at = slice_get_read rules (length rules) p rule refl c.loop-place-test.true c.index-rules-place.is in
    let asked =
    asked_by rule c.pattern.result.now c.args.tree.now c.args.node.node.0 _ _ _ c.pattern.ensures c.kind.ensures c.kind-in-loop-place.ensures c.asks.ensures ∙ c.if-not-asks.false in
    subst (AreToldAt (trees c.args.workspace.now) m rules c.args.tree.now c.args.node (p + 1)) (sym c.in_ok-push.ensures.items)
    (told_more (trees c.args.workspace.now) m rules c.args.tree.now c.args.node p rule _ c.loop-place.told.items at refl refl (record { asked = asked; told = c.in_ok-reason.ensures }) c.loop-place.invariant)

pub returns : goal.returns
returns g c =
    told_all (trees c.args.workspace.now) (g.S.Semantics.meanings c.args.semantics.now) c.args.rules.now c.args.tree.now c.args.node c.loop-place.place c.loop-place.told.items c.loop-place-test.false c.loop-place.invariant
