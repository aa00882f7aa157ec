use Rattle.ssr_syntax_places.proofs.Postfixes.{try_stands, index_stands, call_stands, method_call_stands, field_stands, number_stands}
use Rattle.ssr_syntax_places.proofs.laws.postfixes.Goals as goal

pub returns : goal.returns
returns c = record {
  asked = try_stands;
  index = index_stands;
  call = call_stands;
  method_call = method_call_stands;
  field = field_stands;
  number = number_stands;
}
