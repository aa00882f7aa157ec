use Rattle.ssr_syntax_rows.proofs.Seams.{solid_seam, pieces_seam}
use Rattle.ssr_syntax_rows.proofs.laws.seams.Goals as goal

pub returns : goal.returns
returns c = record { solid = solid_seam; pieces = pieces_seam }
