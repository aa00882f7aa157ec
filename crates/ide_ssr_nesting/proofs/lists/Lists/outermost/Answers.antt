use Rattle.std.proofs.Common.{rules}
use Rattle.ide_ssr_nesting.proofs.lists.Lists.outermost.Goals as goal

pub returns : goal.returns
returns c = search rules steps 200000
