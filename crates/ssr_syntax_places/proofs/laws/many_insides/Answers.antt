use Rattle.ssr_syntax_places.proofs.LongTexts.{long_fits}
use Rattle.ssr_syntax_places.proofs.Woven.{woven_lexes, woven_filled}
use Rattle.ssr_syntax_places.proofs.Cuts.{many_cut, woven_replaced}
use Rattle.ssr_syntax_places.proofs.laws.many_insides.Goals as goal

pub returns : goal.returns
returns c = record { cut = many_cut; replaced = woven_replaced; lexes = woven_lexes; filled = woven_filled; fits = long_fits }
