use Rattle.ide_ssr_matching.proofs.Shapes.{have_shape}
use Rattle.ide_ssr_matching.proofs.laws.shape.Goals as goal

pub returns : goal.returns
returns c = have_shape
