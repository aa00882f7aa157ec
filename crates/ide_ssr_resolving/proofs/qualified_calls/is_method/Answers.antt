use Rattle.std.proofs.Common.{rules}
use Rattle.ide_ssr_resolving.proofs.qualified_calls.is_method.Goals as goal

pub returns-then-info : goal.returns-then-info
returns-then-info c = search rules

pub returns-else-info : goal.returns-else-info
returns-else-info c = search rules
