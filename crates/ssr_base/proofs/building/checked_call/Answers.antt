use Rattle.std.proofs.Common.{◌+◌, ◌<◌, sym, ◌∙◌, arith, lt-ltb, le-ltb}
use Rattle.ssr_base_trees.specs.Workspace.{trees, nesting}
use Rattle.ssr_base_trees.specs.Built.{most_nested}
use Rattle.ssr_base.proofs.Calls.{fit_read, checked_none, checked_deep, checked_unfit, checked_ok}
use Rattle.ssr_base.proofs.building.checked_call.Goals as goal

pub returns-in_default : goal.returns-in_default
returns-in_default c =
    rw c.expansion_count-number.ensures (checked_none c.args.trees.now c.args.expansion.now c.in_default.ensures)

pub returns-then-nesting-ge-MOST_NESTED : goal.returns-then-nesting-ge-MOST_NESTED
returns-then-nesting-ge-MOST_NESTED c =
    let w = c.args.trees.now in
    let depth = nesting (trees w) c.in-Some.call.tree in
    let much : most_nested < 1 + depth = omega (arith, c.nesting.ensures) in
    rw c.expansion_count-number.ensures
    (checked_deep w c.args.expansion.now c.in-Some.call c.in-Some.ensures (lt-ltb most_nested (1 + depth) much))

pub returns-then-not-fit_origins : goal.returns-then-not-fit_origins
returns-then-not-fit_origins c =
    let w = c.args.trees.now in
    let x = c.args.expansion.now in
    let call = c.in-Some.call in
    let depth = nesting (trees w) call.tree in
    let shallow = le-ltb most_nested (1 + depth) (omega (arith, c.nesting.ensures)) in
    let fits = fit_read w x call c.text_at_top.result.now c.deref.result.now c.fit_origins.result c.fit_origins.ensures c.text_at_top.ensures c.deref.ensures.value in
    rw c.expansion_count-number.ensures (checked_unfit w x call c.in-Some.ensures shallow (sym c.if-not-fit_origins.true ∙ fits))

pub returns : goal.returns
returns c =
    let w = c.args.trees.now in
    let x = c.args.expansion.now in
    let call = c.in-Some.call in
    let depth = nesting (trees w) call.tree in
    let shallow = le-ltb most_nested (1 + depth) (omega (arith, c.nesting.ensures)) in
    let fits = fit_read w x call c.text_at_top.result.now c.deref.result.now c.fit_origins.result c.fit_origins.ensures c.text_at_top.ensures c.deref.ensures.value in
    checked_ok w x call c.in-Some.ensures shallow (sym c.if-not-fit_origins.false ∙ fits)
