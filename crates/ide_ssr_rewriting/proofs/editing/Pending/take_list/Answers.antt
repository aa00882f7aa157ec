use Rattle.std.proofs.Common.{rules}
use Rattle.ide_ssr_rewriting.proofs.editing.Pending.take_list.Goals as goal

pub returns-clause-clash : goal.returns-clause-clash
returns-clause-clash c = search rules steps 600000
