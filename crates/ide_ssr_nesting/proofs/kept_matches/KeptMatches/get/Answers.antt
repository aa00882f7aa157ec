use Rattle.std.proofs.Common.{◌<◌, refl, sym, ap, ◌∙◌, subst, length}
use Rattle.std.proofs.lemmas.Option.{slice_get_read}
use Rattle.std.specs.Prelude.{slice_get}
use Rattle.ide_ssr_nesting.specs.Holding.{Kept}
use Rattle.ide_ssr_nesting.proofs.kept_matches.KeptMatches.get.Goals as goal

pub returns : goal.returns
returns c =
    let matches = c.self.inside.matches.items in
    let place = c.args.place in
    let low = subst (λ (kept : Kept). place < length kept.matches) (sym c.self.view_is) c.requires in
    ap (λ (kept : Kept). slice_get kept.matches place) (sym c.self.view_is)
    ∙ slice_get_read matches (length matches) place c.index.result.now refl low c.index.ensures
