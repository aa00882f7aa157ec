use Rattle.ide_ssr.proofs.OneEach.{one_edit_each}
use Rattle.ide_ssr.proofs.SomeOutcome.{answer_exists_each}
use Rattle.ide_ssr.proofs.laws.editing.Goals as goal

pub returns : goal.returns
returns c = record { exist = answer_exists_each; one = one_edit_each }
