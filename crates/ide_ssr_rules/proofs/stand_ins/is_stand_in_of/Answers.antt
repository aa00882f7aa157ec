use Rattle.std.proofs.Common.{sym}
use Rattle.ide_ssr_rules.proofs.stand_ins.is_stand_in_of.Goals as goal

pub returns-in-None : goal.returns-in-None
returns-in-None c = sym (c.in-None.ensures c.args.name.now)
