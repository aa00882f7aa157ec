use Rattle.std.proofs.Common.{rules}
use Rattle.ide_ssr_nesting.proofs.kept_matches.KeptMatches.len.Goals as goal

pub returns : goal.returns
returns c = search rules steps 200000
