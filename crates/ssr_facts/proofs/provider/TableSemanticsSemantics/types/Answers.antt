use Rattle.std.proofs.Common.{rules}
use Rattle.ssr_facts.proofs.provider.TableSemanticsSemantics.types.Goals as goal

pub returns-in-None : goal.returns-in-None
returns-in-None c = search rules steps 260000

pub returns-in_ok-from_slice-in-Some : goal.returns-in_ok-from_slice-in-Some
returns-in_ok-from_slice-in-Some c = search rules steps 520000
