use Rattle.std.proofs.Common.{sym, subst}
use Rattle.std.specs.Prelude.{All}
use Rattle.std.proofs.lemmas.List.Elements.{All-push}
use Rattle.ssr_names.specs.declared.definitions.Meaning.TheVariants as meaning
use Rattle.ssr_names.specs.declared.space.Alias.{Alias}
use Rattle.ssr_names.specs.Declarations.{IsTypeAlias}
use Rattle.ssr_names.proofs.types.followed_aliases.Goals as goal

abbrev none : Alias
none = record { item = record { 0 = 0 }; meaning = meaning.Nothing }

pub loop-alias-preserved : goal.loop-alias-preserved
loop-alias-preserved c =
    let l = c.loop-alias in
    let is = IsTypeAlias c.args.space.now.table.now in
    let aliases = subst (All is) (sym c.deref-alias-items.ensures.value) c.requires in
    subst (All is) (sym c.in_ok-push.ensures.items)
    (All-push is l.aliases.items c.followed_alias.result l.invariant (c.followed_alias.ensures (aliases l.alias-index none c.loop-alias-test.true)))
