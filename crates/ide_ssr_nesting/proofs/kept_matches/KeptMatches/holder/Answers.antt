use Rattle.std.proofs.Common.{◌<◌, sym, ap, ◌∙◌, subst, length}
use Rattle.std.proofs.lemmas.Option.{slice_get_read}
use Rattle.std.specs.Prelude.{slice_get}
use Rattle.ide_ssr_nesting.specs.Holding.{Kept}
use Rattle.ide_ssr_nesting.proofs.kept_matches.KeptMatches.holder.Goals as goal

pub returns : goal.returns
returns c =
    let holders = c.self.inside.holders.items in
    let place = c.args.place in
    let low = subst (λ (kept : Kept). place < length kept.matches) (sym c.self.view_is) c.requires in
    ap (λ (kept : Kept). slice_get kept.holders place) (sym c.self.view_is)
    ∙ slice_get_read holders (length c.self.inside.matches.items) place c.index.result.now (sym c.self.invariant.held.counted) low c.index.ensures
