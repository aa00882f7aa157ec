use Rattle.std.proofs.Common.{rules}
use Rattle.ssr_facts.proofs.provider.TableSemanticsSemantics.resolve_method.Goals as goal

pub returns-in-Some : goal.returns-in-Some
returns-in-Some c = search rules steps 260000

pub returns-in-None : goal.returns-in-None
returns-in-None c = search rules steps 260000
