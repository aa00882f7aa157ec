use Rattle.std.proofs.Common.{rules}
use Rattle.ide_ssr_resolving.proofs.eligible.is_builtin_type.Goals as goal

pub returns-in_default : goal.returns-in_default
returns-in_default g c = search rules

pub returns-in-BuiltinType : goal.returns-in-BuiltinType
returns-in-BuiltinType g c = search rules

pub returns-in_default-matches : goal.returns-in_default-matches
returns-in_default-matches g c = search rules
