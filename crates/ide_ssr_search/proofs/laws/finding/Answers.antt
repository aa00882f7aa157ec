use Rattle.ide_ssr_search.proofs.Matched.{are_matches}
use Rattle.ide_ssr_search.proofs.laws.finding.Goals as goal

pub returns : goal.returns
returns c = are_matches
