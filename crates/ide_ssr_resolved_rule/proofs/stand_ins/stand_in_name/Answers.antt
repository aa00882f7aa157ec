use Rattle.std.proofs.Common.{sym}
use Rattle.ide_ssr_resolved_rule.proofs.StandIns.{no_stand_in}
use Rattle.ide_ssr_resolved_rule.proofs.stand_ins.stand_in_name.Goals as goal

pub returns-in-None : goal.returns-in-None
returns-in-None c = λ name. sym (no_stand_in _ name c.in-None.ensures.cases)
