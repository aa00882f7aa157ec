use Rattle.std.proofs.Common.{rules}
use Rattle.ide_ssr_rewriting.specs.Clashes.{is_clash}
use Rattle.ide_ssr_rewriting.proofs.clashes.Rewrite.clashes_with.Goals as goal

pub returns-else-share_byte : goal.returns-else-share_byte
unfolding is_clash
returns-else-share_byte c = search rules steps 200000

pub returns-else-not-same_range : goal.returns-else-not-same_range
unfolding is_clash
returns-else-not-same_range c = search rules steps 400000
