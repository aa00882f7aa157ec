use Rattle.std.proofs.Common.{refl}
use Rattle.ide_ssr_bindings.proofs.bindings.Binding.of_tokens.Goals as goal

pub returns : goal.returns
returns c = refl
