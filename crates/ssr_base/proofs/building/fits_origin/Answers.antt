use Rattle.std.proofs.Common.{arith, rules}
use Rattle.std.proofs.lemmas.Grind.{common_steps}
use Rattle.ssr_base.proofs.building.fits_origin.Goals as goal

pub returns-in-None : goal.returns-in-None
returns-in-None c = search rules steps 200000

pub returns-then-is_char_boundary : goal.returns-then-is_char_boundary
returns-then-is_char_boundary c = grind (arith, common_steps) steps 500000

pub returns-else-is_char_boundary : goal.returns-else-is_char_boundary
returns-else-is_char_boundary c = search rules steps 200000
