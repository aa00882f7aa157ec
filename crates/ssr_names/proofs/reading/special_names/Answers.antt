use Rattle.std.proofs.Common.{codes}
use Rattle.ssr_names.proofs.Telling.{declares_itself, still_declares}
use Rattle.ssr_names.proofs.reading.special_names.Goals as goal

pub returns-clause-declared : goal.returns-clause-declared
returns-clause-declared c =
    let table = c.args.table.now in
    still_declares table table c.add-3.new.self (declares_itself table)
    (λ text name had. c.in_ok-add-3.ensures.kept text name (c.in_ok-add-2.ensures.kept text name (c.in_ok-add.ensures.kept text name had)))

pub returns-clause-stranger : goal.returns-clause-stranger
returns-clause-stranger c =
    c.in_ok-add-3.ensures.kept (codes "?") c.in_ok-add.field-0 (c.in_ok-add-2.ensures.kept (codes "?") c.in_ok-add.field-0 c.in_ok-add.ensures.numbered)
