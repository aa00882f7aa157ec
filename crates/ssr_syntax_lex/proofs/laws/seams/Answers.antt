use Rattle.ssr_syntax_lex.proofs.SeamLaws.{before_seam, behind_seam, cut_before_seam, cut_behind_seam, seam_begins, seam_ends}
use Rattle.ssr_syntax_lex.proofs.SeamPlaces.{same_places}
use Rattle.ssr_syntax_lex.proofs.laws.seams.Goals as goal

pub returns : goal.returns
returns c = record {
  before = before_seam;
  behind = behind_seam;
  cut_before = cut_before_seam;
  cut_behind = cut_behind_seam;
  places = same_places;
  first = seam_begins;
  last = seam_ends;
}
