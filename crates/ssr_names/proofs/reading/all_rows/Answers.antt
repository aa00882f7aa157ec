use Rattle.std.proofs.Common.{sym, subst}
use Rattle.std.specs.Prelude.{All}
use Rattle.ssr_base_trees.specs.Workspace.{trees}
use Rattle.ssr_names.specs.Private.Locals.{HasNoLocal, IsRight}
use Rattle.ssr_names.specs.Private.Rows.{AreKnown, TellsRow}
use Rattle.ssr_names.proofs.reading.all_rows.Goals as goal

pub returns-clause-local : goal.returns-clause-local
returns-clause-local c =
    let ts = trees c.args.resolver.source.now.trees.now in
    subst (λ known. HasNoLocal ts known.entries) (sym c.add_calls.ensures)
    (c.in_ok-rows.ensures.local ts (subst (All (IsRight ts)) (sym c.as_slice.ensures.value) c.in_ok-found.ensures.local))

pub returns-clause-told : goal.returns-clause-told
returns-clause-told c =
    let r = c.args.resolver in
    let ts = trees r.source.now.trees.now in
    subst (AreKnown r.space.now r.source.now.stranger r.scopes.now.trees.items ts c.args.wanted.now.definitions.items) (sym c.add_calls.ensures)
    (c.in_ok-rows.ensures.told r.source.now.stranger r.scopes.now.trees.items ts
    (subst (All (TellsRow r.space.now r.source.now.stranger r.scopes.now.trees.items ts)) (sym c.as_slice.ensures.value) c.in_ok-found.ensures.told))
