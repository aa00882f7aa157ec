use Rattle.ssr_syntax_places.proofs.Loosest.{range_anywhere, inclusive_anywhere, assignment_anywhere}
use Rattle.ssr_syntax_places.proofs.laws.loosest.Goals as goal

pub returns : goal.returns
returns c = record { range = range_anywhere; inclusive = inclusive_anywhere; assignment = assignment_anywhere }
