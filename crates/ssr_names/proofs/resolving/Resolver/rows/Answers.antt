use Rattle.std.proofs.Common.{sym, subst}
use Rattle.std.specs.Prelude.{All}
use Rattle.std.proofs.lemmas.List.Elements.{All-push}
use Rattle.ssr_base_trees.specs.Workspace.{trees}
use Rattle.ssr_names.specs.Private.Locals.{IsRight}
use Rattle.ssr_names.specs.Private.Rows.{TellsRow}
use Rattle.ssr_names.proofs.Telling.{if_some, told_less}
use Rattle.ssr_names.proofs.resolving.Resolver.rows.Goals as goal

pub loop-word-preserved : goal.loop-word-preserved
loop-word-preserved c =
    let right = IsRight (trees c.args.locals.trees.now) in
    let self = c.args.self.now in
    let tells = TellsRow self.space.now self.source.now.stranger self.scopes.now.trees.items (trees self.source.now.trees.now) in
    let told = c.in_ok-without_local.ensures.told in
    record {
      local = subst (All right) (sym c.in_ok-push.ensures.items) (All-push right c.loop-word.rows.items _ c.loop-word.invariant.local c.in_ok-without_local.ensures.local);
      told = subst (All tells) (sym c.in_ok-push.ensures.items) (All-push tells c.loop-word.rows.items _ c.loop-word.invariant.told
          (told_less self.space.now self.source.now.stranger self.scopes.now.trees.items (trees self.source.now.trees.now) c.in-Some.row c.in_ok-without_local.field-0 told.0 told.1 (if_some tells c.in_ok-row.field-0 c.in-Some.row c.in-Some.is c.in_ok-row.ensures)));
    }
