use Rattle.ide_ssr_rewriting.proofs.Answering.{one_edit, edits_or_clash}
use Rattle.ide_ssr_rewriting.proofs.SomeAnswer.{answer_exists}
use Rattle.ide_ssr_rewriting.proofs.laws.answering.Goals as goal

pub returns-clause-exist : goal.returns-clause-exist
returns-clause-exist c kept lists rules is are = answer_exists kept is lists rules are

pub returns-clause-one : goal.returns-clause-one
returns-clause-one c kept lists rules is are = one_edit kept lists rules is are

pub returns-clause-edits_or_clash : goal.returns-clause-edits_or_clash
returns-clause-edits_or_clash c kept lists rules is are = edits_or_clash kept lists rules is are
