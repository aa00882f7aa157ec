use Rattle.std.proofs.lemmas.Result.{IfOk-weaker}
use Rattle.ssr_changes.specs.Private.Building.{IsAdded, IsOneMore}
use Rattle.ssr_changes.proofs.Built.{one_more}
use Rattle.ssr_changes.proofs.building.add_there.Goals as goal

pub returns : goal.returns
returns c =
    let old = c.args.workspace.now in
    let new = c.add.new.workspace in
    let x = c.moved.result in
    IfOk-weaker c.add.result (IsAdded old x new) (IsOneMore old new) (one_more old new x) c.add.ensures
