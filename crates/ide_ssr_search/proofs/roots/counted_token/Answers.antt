use Rattle.std.proofs.Common.{rules}
use Rattle.ide_ssr_search.proofs.roots.counted_token.Goals as goal

pub returns-then-counts : goal.returns-then-counts
returns-then-counts c = search rules

pub returns-else-counts : goal.returns-else-counts
returns-else-counts c = search rules
