use Rattle.std.proofs.Common.{rules}
use Rattle.ssr_facts.proofs.provider.TableSemanticsSemantics.path_from.Goals as goal

pub returns-in-None : goal.returns-in-None
returns-in-None c = search rules steps 260000

pub returns-in_ok-from_str-in-Some : goal.returns-in_ok-from_str-in-Some
returns-in_ok-from_str-in-Some c = search rules steps 620000
