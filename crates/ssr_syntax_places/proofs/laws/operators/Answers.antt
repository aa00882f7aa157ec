use Rattle.ssr_syntax_places.proofs.Operators.{prefix_stands, reference_stands, mut_reference_stands, binary_stands}
use Rattle.ssr_syntax_places.proofs.laws.operators.Goals as goal

pub returns : goal.returns
returns c = record {
  prefix = prefix_stands;
  reference = reference_stands;
  mut_reference = mut_reference_stands;
  binary = binary_stands;
}
