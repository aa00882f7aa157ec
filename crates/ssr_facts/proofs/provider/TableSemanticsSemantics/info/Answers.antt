use Rattle.std.proofs.Common.{rules}
use Rattle.ssr_facts.proofs.provider.TableSemanticsSemantics.info.Goals as goal

pub returns : goal.returns
returns c = search rules steps 126000
