use Rattle.std.proofs.Common.{rules}
use Rattle.ide_ssr_resolving.proofs.resolving.adt_of.Goals as goal

pub returns-in-Adt : goal.returns-in-Adt
returns-in-Adt g c = search rules

pub returns-in_default : goal.returns-in_default
returns-in_default g c = search rules

pub returns-in_default-kind : goal.returns-in_default-kind
returns-in_default-kind g c = search rules
