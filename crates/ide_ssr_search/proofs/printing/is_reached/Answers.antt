use Rattle.std.proofs.Common.{rules}
use Rattle.ide_ssr_search.proofs.printing.is_reached.Goals as goal

pub returns-in_ok-path_from-in-Def : goal.returns-in_ok-path_from-in-Def
returns-in_ok-path_from-in-Def g c = search rules steps 200000
