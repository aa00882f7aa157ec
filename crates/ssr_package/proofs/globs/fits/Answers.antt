use Rattle.std.proofs.Common.{◌∙◌}
use Rattle.ssr_package.proofs.GlobLaws.{fits_same}
use Rattle.ssr_package.proofs.globs.fits.Goals as goal

pub returns : goal.returns
returns c =
    fits_same c.characters_fit.result _ _ _ _ (c.deref.ensures.value ∙ c.in_ok-pattern.ensures) (c.deref-2.ensures.value ∙ c.in_ok-name.ensures)
    c.characters_fit.ensures
