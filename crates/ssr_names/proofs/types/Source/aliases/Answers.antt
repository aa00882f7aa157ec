use Rattle.std.proofs.Common.{sym, subst}
use Rattle.std.specs.Prelude.{All}
use Rattle.std.proofs.lemmas.List.Elements.{All-push}
use Rattle.ssr_names.specs.Declarations.{IsTypeAlias}
use Rattle.ssr_names.proofs.Telling.{if_some}
use Rattle.ssr_names.proofs.types.Source.aliases.Goals as goal

pub loop-number-preserved : goal.loop-number-preserved
loop-number-preserved c =
    let is = IsTypeAlias c.args.space.now.table.now in
    subst (All is) (sym c.in_ok-push.ensures.items)
    (All-push is c.loop-number.aliases.items c.in-Some.alias c.loop-number.invariant (if_some is c.in_ok-alias.field-0 c.in-Some.alias c.in-Some.is c.in_ok-alias.ensures))
