use Rattle.std.proofs.Common.{rules}
use Rattle.ide_ssr_rules.proofs.sides.new_placeholder.Goals as goal

pub returns : goal.returns
returns c = search rules steps 340000

pub returns-then-has : goal.returns-then-has
returns-then-has c = search rules steps 500000
