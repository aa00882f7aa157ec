use Rattle.std.proofs.Common.{rules}
use Rattle.ide_ssr_search.proofs.bounds.Bounds.hold.Goals as goal

pub returns-in-Within : goal.returns-in-Within
returns-in-Within c = search rules steps 200000

pub returns-in-Nowhere : goal.returns-in-Nowhere
returns-in-Nowhere c = search rules steps 200000

pub returns-in-Everywhere : goal.returns-in-Everywhere
returns-in-Everywhere c = search rules steps 200000
