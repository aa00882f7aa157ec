use Rattle.std.proofs.Common.{ap}
use Rattle.ide_ssr_bindings.specs.Found.{FoundMatch}
use Rattle.ide_ssr_bindings.proofs.found.FoundMatch.rule.Goals as goal

pub returns : goal.returns
returns c = ap (λ (m : FoundMatch). m.rule) c.self.view_is
